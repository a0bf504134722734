use Rattle.cloud.proofs.Sound.{what_is_put_is_got_back}
use Rattle.cloud.proofs.laws.what_is_put_is_got_back.Goals as goal

pub returns : goal.returns
returns c = what_is_put_is_got_back
