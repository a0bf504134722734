use Rattle.byte_strings.specs.Least.{Least}
use Rattle.byte_strings.proofs.successor.successor.Given as goal

abbrev pub invariant-loop-i : goal.invariant-loop-i
invariant-loop-i g l = Least (g.B.Bound.above l.bound) g.T.Ordered.le l.items l.i l.best
