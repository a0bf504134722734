-- What a party's slot is doing.
use Rattle.std.specs.Prelude.{ℕ, Bool, true, false, List}
use Rattle.naming.specs.Stamps.{StampValue}
use Rattle.entry.specs.Entries.{LiveValue}

-- a save that is under way: its key and stamp, the value's size and digest, and the clouds that have acknowledged it
pub record SavingValue : Type 0 where
  pub container : ℕ
  pub key : List ℕ
  pub stamp : StampValue
  pub size : ℕ
  pub digest : List ℕ
  pub stored : ℕ

-- a fetch that is under way: its key, and what the key's entry said when the fetch last looked
pub record FetchingValue : Type 0 where
  pub container : ℕ
  pub key : List ℕ
  pub stamp : StampValue
  pub live : LiveValue

-- a sweep that is under way: its key, and the stamp below which names are dropped
pub record SweepingValue : Type 0 where
  pub container : ℕ
  pub key : List ℕ
  pub stamp : StampValue

pub data SlotValue : Type 0 where
  idle : SlotValue
  saving : SavingValue → SlotValue
  fetching : FetchingValue → SlotValue
  sweeping : SweepingValue → SlotValue

abbrev pub is_idle : SlotValue → Bool
is_idle idle = true
is_idle (saving x) = false
is_idle (fetching x) = false
is_idle (sweeping x) = false

abbrev pub is_saving : SlotValue → Bool
is_saving idle = false
is_saving (saving x) = true
is_saving (fetching x) = false
is_saving (sweeping x) = false

abbrev pub is_fetching : SlotValue → Bool
is_fetching idle = false
is_fetching (saving x) = false
is_fetching (fetching x) = true
is_fetching (sweeping x) = false

abbrev pub is_sweeping : SlotValue → Bool
is_sweeping idle = false
is_sweeping (saving x) = false
is_sweeping (fetching x) = false
is_sweeping (sweeping x) = true

-- a test of what the slot is saving, or fetching; false where it is doing something else
abbrev pub of_saving : SlotValue → (SavingValue → Bool) → Bool
of_saving idle t = false
of_saving (saving x) t = t x
of_saving (fetching x) t = false
of_saving (sweeping x) t = false

abbrev pub of_fetching : SlotValue → (FetchingValue → Bool) → Bool
of_fetching idle t = false
of_fetching (saving x) t = false
of_fetching (fetching x) t = t x
of_fetching (sweeping x) t = false
