use Rattle.std.proofs.Common.{rules}
use Rattle.digest.specs.Rounds.{turned}
use Rattle.digest.proofs.rounds.sixteen_rounds.Goals as goal

pub returns : goal.returns
unfolding turned
returns g c = search rules
