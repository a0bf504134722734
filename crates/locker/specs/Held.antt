-- What a Locker holds, by meanings, and what a call makes of it.
use Rattle.std.specs.Prelude.{◌≡◌, ℕ, List, Some, None, Ok, Err, Option, Result}
use Rattle.refusal.specs.declared.Cause.{Cause}
use Rattle.refusal.specs.declared.CloudFault.{CloudFault}
use Rattle.refusal.specs.declared.Refusal.{Refusal}
use Rattle.refusal.specs.Numbers.{refusal_fault}
use Rattle.naming.specs.declared.address.Address.{Address}
use Rattle.naming.specs.Stamps.{no_stamp}
use Rattle.entry.specs.Entries.{EntryValue}
use Rattle.cloud.specs.Meaning.{CloudMeaning}
use Rattle.cloud.specs.Outcomes.{Done}
use Rattle.directory.specs.Meaning.{DirectoryMeaning}
use Rattle.protocol.specs.Slots.{SlotValue, idle, fetching}
use Rattle.protocol.specs.State.{State}
use Rattle.protocol.specs.Calls.{Call}
use Rattle.protocol.specs.Grounds.{first_ground}
use Rattle.protocol.specs.Events.{Event}
use Rattle.protocol.specs.Steps.{Step}
use Rattle.slots.specs.declared.doing.Fetching.{Fetching}
use Rattle.slots.specs.Values.{fetching_value, setting_of}
use Rattle.locker.specs.declared.locker.Locker.{Locker}

-- one of two facts, by whether a call was refused before its work
abbrev pub by_ground : Option Refusal → Type 0 → Type 0 → Type 0
by_ground None done kept = done
by_ground (Some e) done kept = kept

-- The directory, the row and the digest kind of a Locker may be any; these say what they mean.
module _ {D R K : Type 0} (meaning : D → DirectoryMeaning) (clouds : R → List CloudMeaning) (digested : List ℕ → List ℕ) where
  abbrev pub state_of : Locker D R K → State
  state_of l = record { directory = meaning l.directory; clouds = clouds l.row; slots = l.slots }

  -- A call, of which this came, took the Locker from `old` to `new`.
  pub record Stepped (old : Locker D R K) (e : Event) (new : Locker D R K) : Type 0 where
    pub step : Step (setting_of digested old.limits) (state_of old) e (state_of new)
    pub limits : new.limits ≡ old.limits

  -- The same of a call that asks no cloud: the row is as it was.
  pub record SteppedAlone (old : Locker D R K) (e : Event) (new : Locker D R K) : Type 0 where
    pub step : Step (setting_of digested old.limits) (state_of old) e (state_of new)
    pub row : new.row ≡ old.row
    pub limits : new.limits ≡ old.limits

  -- A call asked the row, as `asked` says; where it was refused before, the row is as it was.
  abbrev pub Asked : Locker D R K → Call → Type 0 → Locker D R K → Type 0
  Asked old c asked new = by_ground (first_ground (setting_of digested old.limits) c (state_of old)) asked (new.row ≡ old.row)

-- the container and the key of an address
abbrev pub address_parts : Address → ℕ × List ℕ
address_parts at = (at.container, at.key.bytes)

-- a slot with this fetch, or idle
abbrev pub fetch_slot : Option Fetching → SlotValue
fetch_slot None = idle
fetch_slot (Some x) = fetching (fetching_value x)

-- an entry that is there; where there is none, one without a value
abbrev pub entry_or_none : Option EntryValue → EntryValue
entry_or_none None = record { stamp = no_stamp; live = None }
entry_or_none (Some e) = e

-- what the cloud said, read off the answer of a call that asked it
abbrev pub fault_said : Option CloudFault → Done
fault_said None = Ok tt
fault_said (Some f) = Err f.cause

abbrev pub said : Result ℕ Refusal → Done
said (Ok n) = Ok tt
said (Err e) = fault_said (refusal_fault e)

abbrev pub fault_swept : Option CloudFault → Result ℕ Cause
fault_swept None = Ok 0
fault_swept (Some f) = Err f.cause

-- what a sweep came to, read off its answer
abbrev pub swept_said : Result ℕ Refusal → Result ℕ Cause
swept_said (Ok n) = Ok n
swept_said (Err e) = fault_swept (refusal_fault e)
