use Rattle.cloud.proofs.Sound.{other_names_keep_their_values}
use Rattle.cloud.proofs.laws.other_names_keep_their_values.Goals as goal

pub returns : goal.returns
returns c = other_names_keep_their_values
