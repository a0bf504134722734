use Rattle.std.proofs.Common.{rules}
use Rattle.sha1_digest.specs.Sha1.{round}
use Rattle.digest_cases.proofs.sha0.Sha0RoundsInRange.round.Goals as goal

pub returns : goal.returns
unfolding round
returns c = search rules
