use Rattle.std.proofs.Common.{◌≡◌, ◌+◌, ◌*◌, ◌≤◌, length}
use Rattle.protocol.specs.Listing.{keys_of, listing}
use Rattle.listing.specs.Walk.{left}
use Rattle.listing.proofs.list.measure.Given as goal

abbrev pub invariant-loop-key : goal.invariant-loop-key
invariant-loop-key g l =
    record {
      can : (goal.iterator-loop-key g).can_next l.key-iterator;
      ends : (goal.iterator-loop-key g).is_finite l.key-iterator;
      name : l.key-iterator.directory.ghost_name ≡ l.initial.key-iterator.directory.ghost_name;
      same : g.D.Directory.meaning l.key-iterator.directory.now ≡ g.D.Directory.meaning l.fn.directory;
      count : l.size.count + length (left g.D.Directory.meaning l.key-iterator) ≡ length (keys_of (g.D.Directory.meaning l.fn.directory) l.container);
      bytes : l.size.bytes + length (listing (left g.D.Directory.meaning l.key-iterator)) ≡ length (listing (keys_of (g.D.Directory.meaning l.fn.directory) l.container));
      few : l.size.bytes ≤ 33 * l.size.count;
    }
