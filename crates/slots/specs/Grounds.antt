-- On what grounds a party's slot refuses what a call asks of it; see the table of the protocol.
use Rattle.std.specs.Prelude.{ℕ, Bool, cond, not, ◌||◌, List, Some, None, Option, nat_le, nat_lt}
use Rattle.refusal.specs.declared.Refusal.{Refusal}
use Rattle.refusal.specs.declared.Refusal.TheVariants.{SlotNotReady, DifferentValue, AlreadyStored, TooFewStored, CloudNotListed}
use Rattle.entry.specs.Clouds.{lists, count}
use Rattle.protocol.specs.Slots.{SlotValue, is_saving, is_fetching, of_saving, of_fetching}
use Rattle.protocol.specs.State.{Setting}
use Rattle.protocol.specs.Grounds.{is_begun_value}

-- a refusal where a test holds, and else another
abbrev pub first : Bool → Refusal → Option Refusal → Option Refusal
first b e other = cond b (Some e) other

-- the value is to be stored at the cloud i
abbrev pub store_ground : Setting → SlotValue → ℕ → List ℕ → Option Refusal
store_ground S s i v =
    first (not (is_saving s)) SlotNotReady (first (of_saving s (λ x. not (is_begun_value S v x))) DifferentValue (first (of_saving s (λ x. lists x.stored i || nat_lt S.faults (count x.stored))) AlreadyStored None))

-- the save is to be committed, where so many clouds may be unsound
abbrev pub commit_ground : ℕ → SlotValue → Option Refusal
commit_ground faults s = first (not (is_saving s)) SlotNotReady (first (of_saving s (λ x. nat_le (count x.stored) faults)) TooFewStored None)

-- the cloud i is to be tried
abbrev pub try_ground : SlotValue → ℕ → Option Refusal
try_ground s i = first (not (is_fetching s)) SlotNotReady (first (of_fetching s (λ x. not (lists x.live.clouds i))) CloudNotListed None)
