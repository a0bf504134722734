use Rattle.std.proofs.Common.{◌≡◌, ℕ, ◌<◌, length, get_or}
use Rattle.digest.specs.Words.{plus}
use Rattle.digest.proofs.words.sums.Given as goal

abbrev pub invariant-loop-i : goal.invariant-loop-i
invariant-loop-i g l = (length l.out ≡ g.row.N) × ((k : ℕ) → k < l.i → get_or l.out k 0 ≡ plus (get_or l.fn.xs k 0) (get_or l.fn.ys k 0))
