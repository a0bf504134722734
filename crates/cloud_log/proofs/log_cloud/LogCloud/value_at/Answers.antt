use Rattle.cloud_log.proofs.Calls.{stands_within}
use Rattle.cloud_log.proofs.log_cloud.LogCloud.value_at.Goals as goal

pub value_in-requires : goal.value_in-requires
value_in-requires c = stands_within c.args.self.now c.args.place c.index.result.now c.requires c.index.ensures _ c.deref.ensures.len
