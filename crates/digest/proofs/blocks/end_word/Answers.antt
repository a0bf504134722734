use Rattle.std.proofs.Common.{rules}
use Rattle.std.proofs.lemmas.List.{places}
use Rattle.digest.proofs.blocks.end_word.Goals as goal

pub returns-in-empty : goal.returns-in-empty
returns-in-empty c = search (rules, places)

pub returns-in-len1 : goal.returns-in-len1
returns-in-len1 c = search (rules, places)

pub returns-in-len2 : goal.returns-in-len2
returns-in-len2 c = search (rules, places)

pub returns-in-len3-up : goal.returns-in-len3-up
returns-in-len3-up c = search (rules, places)
