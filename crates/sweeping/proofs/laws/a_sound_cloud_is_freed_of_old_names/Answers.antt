use Rattle.sweeping.proofs.Freed.{a_sound_cloud_is_freed_of_old_names}
use Rattle.sweeping.proofs.laws.a_sound_cloud_is_freed_of_old_names.Goals as goal

pub returns : goal.returns
returns c = a_sound_cloud_is_freed_of_old_names
