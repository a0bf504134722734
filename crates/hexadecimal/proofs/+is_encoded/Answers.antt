use Rattle.std.proofs.Common.{rules}
use Rattle.hexadecimal.proofs.Texts.{other_length}
use Rattle.hexadecimal.proofs.+is_encoded.Goals as goal

pub returns-in_default-2 : goal.returns-in_default-2
returns-in_default-2 t c = search (rules, other_length)
