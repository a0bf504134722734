use Rattle.std.proofs.Common.{arith, rules}
use Rattle.std.proofs.lemmas.Bool.Decides.{nat_tests}
use Rattle.directory_table.specs.Limits.{empty_meaning}
use Rattle.directory_table.proofs.table.Table.new.Goals as goal

pub returns : goal.returns
returns c = (grind (arith, nat_tests), empty_meaning _ _ (search rules), search rules)
