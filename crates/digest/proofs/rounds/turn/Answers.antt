use Rattle.std.proofs.Common.{rules}
use Rattle.digest.specs.Rounds.{step}
use Rattle.digest.proofs.rounds.turn.Goals as goal

pub returns : goal.returns
unfolding step
returns g c = search rules
