use Rattle.std.proofs.Common.{arith}
use Rattle.std.proofs.lemmas.Bool.Decides.{nat_tests}
use Rattle.log_record.specs.Records.{encoded}
use Rattle.log_record.proofs.ReadBack.{records_read_back}
use Rattle.log_record.proofs.write.write_stored.Goals as goal

pub returns-then-value-gt-LONGEST_VALUE-clause-read_back : goal.returns-then-value-gt-LONGEST_VALUE-clause-read_back
returns-then-value-gt-LONGEST_VALUE-clause-read_back c = records_read_back

pub returns-clause-written : goal.returns-clause-written
unfolding encoded
returns-clause-written c = grind (arith, nat_tests)

pub returns-clause-read_back : goal.returns-clause-read_back
returns-clause-read_back c = records_read_back
