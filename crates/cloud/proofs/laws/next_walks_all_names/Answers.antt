use Rattle.cloud.proofs.Sound.{next_walks_all_names}
use Rattle.cloud.proofs.laws.next_walks_all_names.Goals as goal

pub returns : goal.returns
returns c = next_walks_all_names
