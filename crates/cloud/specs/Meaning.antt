-- What a cloud means.
use Rattle.std.specs.Prelude.{◌≡◌, ℕ, ◌+◌, ◌≤◌, Bool, List, length, Some}
use Rattle.bytemap.specs.Map.{Map, find, Ascending}

pub record CloudMeaning : Type 0 where
  -- whether it does what is said of sound clouds
  pub sound : Bool
  -- the names that it holds, with their values
  pub held : Map (List ℕ)
  -- how many names more it can hold
  pub free : ℕ

abbrev pub longest_name : ℕ
longest_name = 39

abbrev pub longest_value : ℕ
longest_value = 1024

-- each name that is held and its value are of limited length
abbrev pub AllShort : Map (List ℕ) → Type 0
AllShort held = (n v : List ℕ) → find held n ≡ Some v → (length n ≤ longest_name) × (length v ≤ longest_value)

-- What holds of every cloud, sound or not: no name twice, names and values of limited length, at most 64 places.
pub record WithinLimits (m : CloudMeaning) : Type 0 where
  pub ascending : Ascending m.held
  pub short : AllShort m.held
  pub places : length m.held + m.free ≤ 64
