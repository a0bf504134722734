use Rattle.std.proofs.Common.{ap, ◌∙◌}
use Rattle.std.specs.Prelude.{count_ones}
use Rattle.entry.proofs.Sets.{ones_are_clouds}
use Rattle.entry.proofs.clouds.CloudSet.count.Goals as goal

pub returns : goal.returns
returns c = ap count_ones c.bits.ensures.value ∙ ones_are_clouds c.args.self.now c.bits.ensures.few
