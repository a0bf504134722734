-- What a Locker holds: a directory, a row of clouds, and a slot for each of sixteen parties.
use Rattle.std.specs.Prelude.{ℕ, ◌-◌, Bool, ◌&&◌, List, nat_le, slice_index_or, slice_set}
use Rattle.directory.specs.Meaning.{DirectoryMeaning}
use Rattle.cloud.specs.Meaning.{CloudMeaning}
use Rattle.protocol.specs.Slots.{SlotValue, idle}

-- what is fixed at opening: the digest function, how many clouds may be unsound, and how many clouds there are
pub record Setting : Type 0 where
  pub digested : List ℕ → List ℕ
  pub faults : ℕ
  pub clouds : ℕ

pub record State : Type 0 where
  pub directory : DirectoryMeaning
  pub clouds : List CloudMeaning
  -- that of party 1 comes first
  pub slots : List SlotValue

abbrev pub valid_party : ℕ → Bool
valid_party p = nat_le 1 p && nat_le p 16

-- the slot of a party
abbrev pub slot_at : List SlotValue → ℕ → SlotValue
slot_at slots p = slice_index_or slots (p - 1) idle

abbrev pub slot_of : State → ℕ → SlotValue
slot_of s p = slot_at s.slots p

abbrev pub with_slot : State → ℕ → SlotValue → State
with_slot s p x = record { directory = s.directory; clouds = s.clouds; slots = slice_set s.slots (p - 1) x }

abbrev pub with_clouds : State → List CloudMeaning → State
with_clouds s ms = record { directory = s.directory; clouds = ms; slots = s.slots }

abbrev pub with_directory : State → DirectoryMeaning → State
with_directory s d = record { directory = d; clouds = s.clouds; slots = s.slots }
