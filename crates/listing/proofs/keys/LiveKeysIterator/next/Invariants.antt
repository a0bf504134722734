use Rattle.std.proofs.Common.{◌≡◌, length}
use Rattle.bytemap.specs.Map.{beyond}
use Rattle.listing.specs.Walk.{SameDirectory, bytes_of, inside, left}
use Rattle.listing.proofs.keys.LiveKeysIterator.next.Given as goal

abbrev pub invariant-loop-key : goal.invariant-loop-key
invariant-loop-key g l =
    record {
      same : SameDirectory g.D.Directory.meaning l.initial.self l.self;
      left : left g.D.Directory.meaning l.self ≡ left g.D.Directory.meaning l.initial.self;
    }

abbrev pub decreases-loop-key : goal.decreases-loop-key
decreases-loop-key g l = length (beyond (bytes_of l.self.last) (inside g.D.Directory.meaning l.self))
