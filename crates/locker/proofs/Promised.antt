-- A Locker just opened over an empty directory keeps the promises.
use Rattle.std.proofs.Common.{◌≡◌, [], length, replicate}
use Rattle.protocol.specs.Slots.{idle}
use Rattle.protocol.specs.State.{Setting, State}
use Rattle.history.specs.Promises.{Promises}
use Rattle.history.proofs.Whole.{an_opened_Locker_keeps_its_promises}

pub promised : (S : Setting) (s : State) → s.directory.entries ≡ [] → s.slots ≡ replicate 16 idle → S.clouds ≡ length s.clouds → Promises S s
promised S s empty idles counted = an_opened_Locker_keeps_its_promises S s (record { empty = empty; idles = idles; counted = counted })
