use Rattle.std.proofs.Common.{rules}
use Rattle.sha1_digest.specs.Sha1.{round}
use Rattle.sha1_digest.proofs.kind.Sha1Rounds.round.Goals as goal

pub returns : goal.returns
unfolding round
returns c = search rules
