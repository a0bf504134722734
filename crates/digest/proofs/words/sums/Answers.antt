use Rattle.std.proofs.Common.{get_or, arith}
use Rattle.std.proofs.lemmas.List.FromFn.{fill_by_all}
use Rattle.digest.specs.Words.{plus, sums}
use Rattle.digest.proofs.words.sums.Goals as goal

pub returns : goal.returns
unfolding sums
returns g c = fill_by_all (λ k. plus (get_or c.args.xs k 0) (get_or c.args.ys k 0)) c.loop-i.out g.row.N 0 c.loop-i.invariant.0 (λ k low. c.loop-i.invariant.1 k (omega arith))
