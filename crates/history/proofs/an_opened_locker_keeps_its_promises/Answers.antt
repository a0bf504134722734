use Rattle.history.proofs.an_opened_locker_keeps_its_promises.Goals as goal
use Rattle.history.proofs.Whole.{an_opened_Locker_keeps_its_promises}

-- src/lib.rt:6:1
pub returns : goal.returns
returns c = an_opened_Locker_keeps_its_promises
