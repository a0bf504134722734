use Rattle.slots.specs.Values.{saving_value}
use Rattle.locker.proofs.Grounds.{never_short}
use Rattle.locker.proofs.locker.Locker.commit.Goals as goal

pub returns-in_err-entry : goal.returns-in_err-entry
returns-in_err-entry g c =
    let none = rw c.in_err-entry.ensures.ok_part at c.entry.ensures in
    absurd (never_short _ _ (saving_value c.in_ok-saving.saving) c.in_ok-saving.ensures none)
