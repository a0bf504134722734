use Rattle.journal_record.proofs.ReadBack.{records_read_back}
use Rattle.journal_record.proofs.record.Record.write.Goals as goal

pub returns-then-out-len-clause-read_back : goal.returns-then-out-len-clause-read_back
returns-then-out-len-clause-read_back c = records_read_back

pub returns-clause-read_back : goal.returns-clause-read_back
returns-clause-read_back c = records_read_back
