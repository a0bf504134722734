use borrow.Author.Rules.{rules}
use Rattle.sha256.specs.Sha256.{round}
use Rattle.sha256.proofs.kind.Sha256Rounds.round.Goals as goal

pub returns : goal.returns
unfolding round
returns c = search rules
