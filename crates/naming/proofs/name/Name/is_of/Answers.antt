use Rattle.std.proofs.lemmas.Bool.{false≢true}
use Rattle.naming.proofs.name.Name.is_of.Goals as goal

pub returns-in_default : goal.returns-in_default
returns-in_default c =
    (λ p. absurd (false≢true p), (λ named. absurd (c.in_default.ensures c.args.at.now.container c.args.at.now.key.bytes named)))
