use Rattle.std.proofs.Common.{arith, rules}
use Rattle.std.proofs.lemmas.Bool.Decides.{nat_tests}
use Rattle.cloud_fixed.specs.Places.{empty_meaning}
use Rattle.cloud_fixed.proofs.Held.{none_short}
use Rattle.cloud_fixed.proofs.fixed.FixedCloud.new.Goals as goal

pub returns : goal.returns
returns c = (grind (arith, nat_tests), empty_meaning _ _ (search rules))

pub invariant_of-result-clause-short : goal.invariant_of-result-clause-short
invariant_of-result-clause-short c = none_short _ c.clear.ensures.items
