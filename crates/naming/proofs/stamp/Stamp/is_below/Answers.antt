use Rattle.std.proofs.Common.{arith}
use Rattle.std.proofs.lemmas.Bool.Decides.{nat_tests}
use Rattle.naming.specs.Stamps.{stamp_below}
use Rattle.naming.proofs.Stamps.{stamps_are_ordered}
use Rattle.naming.proofs.stamp.Stamp.is_below.Goals as goal

pub returns : goal.returns
unfolding stamp_below
returns c = record { value = grind (arith, nat_tests); ordered = stamps_are_ordered }
