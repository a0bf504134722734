use Rattle.log_record.specs.Records.{encoded}
use Rattle.log_record.proofs.write.write_dropped.Goals as goal

pub returns : goal.returns
unfolding encoded
returns c = c.write_record.ensures
