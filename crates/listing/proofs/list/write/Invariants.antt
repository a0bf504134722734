use Rattle.std.proofs.Common.{◌≡◌, ◌+◌, length}
use Rattle.protocol.specs.Listing.{keys_of, listing}
use Rattle.listing.specs.Walk.{left}
use Rattle.listing.proofs.Walk.{over_at}
use Rattle.listing.proofs.list.write.Given as goal

abbrev pub invariant-loop-key : goal.invariant-loop-key
invariant-loop-key g l =
    record {
      can : (goal.iterator-loop-key g).can_next l.key-iterator;
      ends : (goal.iterator-loop-key g).is_finite l.key-iterator;
      name : l.key-iterator.directory.ghost_name ≡ l.initial.key-iterator.directory.ghost_name;
      same : g.D.Directory.meaning l.key-iterator.directory.now ≡ g.D.Directory.meaning l.fn.directory;
      size : l.at + length (listing (left g.D.Directory.meaning l.key-iterator)) ≡ length (listing (keys_of (g.D.Directory.meaning l.fn.directory) l.container));
      written : over_at l.at (listing (left g.D.Directory.meaning l.key-iterator)) l.buffer ≡ over_at 0 (listing (keys_of (g.D.Directory.meaning l.fn.directory) l.container)) l.initial.buffer;
    }
