-- Sets of clouds: one bit for each cloud, cloud 0 lowest.
use Rattle.std.specs.Prelude.{ℕ, ◌/◌, ◌%◌, ◌^◌, Bool, cond, List, [], ◌∷◌, length, bit_or, ◌==◌}

-- the cloud i is in the set
abbrev pub lists : ℕ → ℕ → Bool
lists set i = set / 2 ^ i % 2 == 1

-- the set with one cloud more
unfoldable pub with_cloud : ℕ → ℕ → ℕ
with_cloud set i = bit_or set (2 ^ i)

-- those of some clouds that are in the set
unfoldable pub chosen : ℕ → List ℕ → List ℕ
chosen set [] = []
chosen set (i ∷ is) = cond (lists set i) (i ∷ chosen set is) (chosen set is)

-- a row has at most seven clouds
abbrev pub all_clouds : List ℕ
all_clouds = 0 ∷ 1 ∷ 2 ∷ 3 ∷ 4 ∷ 5 ∷ 6 ∷ []

-- how many clouds are in the set
unfoldable pub count : ℕ → ℕ
count set = length (chosen set all_clouds)
