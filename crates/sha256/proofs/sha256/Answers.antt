use borrow.Author.Rules.{rules}
use Rattle.sha256.specs.Digests.{digest_of_abc}
use Rattle.sha256.proofs.sha256.Goals as goal

pub returns : goal.returns
returns c = record { value = search rules; example = digest_of_abc }
