use Rattle.std.proofs.Common.{rules}
use lib.Seq.{map-set}
use Rattle.slots.proofs.sixteen.Slots.turn.Goals as goal

pub returns : goal.returns
returns c = search (rules, map-set)
