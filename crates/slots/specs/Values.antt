-- What the slots and their parts stand for.
use Rattle.std.specs.Prelude.{ℕ, ◌+◌, ◌*◌, Bool, true, false, ◌&&◌, List, Some, None, Ok, Err, Option, Result, nat_le}
use Rattle.refusal.specs.declared.Refusal.{Refusal}
use Rattle.naming.specs.Stamps.{StampValue}
use Rattle.digest.specs.Value.{digest_bytes}
use Rattle.entry.specs.Entries.{live_value, stamp_taken}
use Rattle.protocol.specs.Slots.{SlotValue, SavingValue, FetchingValue, SweepingValue, idle, saving, fetching, sweeping}
use Rattle.protocol.specs.State.{Setting}
use Rattle.slots.specs.declared.limits.Limits.{Limits}
use Rattle.slots.specs.declared.saving.Saving.{Saving as SavingStruct}
use Rattle.slots.specs.declared.doing.Fetching.{Fetching as FetchingStruct}
use Rattle.slots.specs.declared.doing.Sweeping.{Sweeping as SweepingStruct}
use Rattle.slots.specs.declared.doing.Doing.{Doing}
use Rattle.slots.specs.declared.doing.Doing.TheVariants.{Idle, Saving, Fetching, Sweeping}

-- an answer by its value
abbrev pub answered : {X Y : Type 0} → (X → Y) → Result X Refusal → Result Y Refusal
answered f (Ok x) = Ok (f x)
answered f (Err e) = Err e

-- a refusal where the test holds
abbrev pub when : Bool → Refusal → Option Refusal
when true e = Some e
when false e = None

-- 1 to 3 faults, 3 to 7 clouds, and more than twice as many clouds as faults
abbrev pub supported : ℕ → ℕ → Bool
supported faults clouds = nat_le 1 faults && nat_le faults 3 && nat_le 3 clouds && nat_le clouds 7 && nat_le (2 * faults + 1) clouds

-- A setting with this digest function, where only that counts.
abbrev pub digesting : (List ℕ → List ℕ) → Setting
digesting digested = record { digested = digested; faults = 0; clouds = 0 }

abbrev pub setting_of : (List ℕ → List ℕ) → Limits → Setting
setting_of digested limits = record { digested = digested; faults = limits.faults; clouds = limits.clouds }

-- neither number of the stamp is 0, and the value is not too long
abbrev pub can_begin : StampValue → ℕ → Bool
can_begin stamp size = stamp_taken stamp && nat_le size 1024

abbrev pub saving_value : SavingStruct → SavingValue
saving_value x =
    record { container = x.at.container; key = x.at.key.bytes; stamp = x.stamp; size = x.size; digest = digest_bytes x.digest; stored = x.stored }

abbrev pub fetching_value : FetchingStruct → FetchingValue
fetching_value x = record { container = x.at.container; key = x.at.key.bytes; stamp = x.stamp; live = live_value x.live }

abbrev pub sweeping_value : SweepingStruct → SweepingValue
sweeping_value x = record { container = x.at.container; key = x.at.key.bytes; stamp = x.stamp }

abbrev pub doing_value : Doing → SlotValue
doing_value Idle = idle
doing_value (Saving x) = saving (saving_value x)
doing_value (Fetching x) = fetching (fetching_value x)
doing_value (Sweeping x) = sweeping (sweeping_value x)
