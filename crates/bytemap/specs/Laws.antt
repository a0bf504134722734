-- What makes a map.
use Rattle.std.specs.Prelude.{◌≡◌, ℕ, cond, List, Some, None}
use Rattle.std.specs.Str.{bytes_eq}
use Rattle.bytemap.specs.Map.{Map, find, insert, remove, Ascending}

-- Theorem, at byte strings as values: two maps that find the same are the same, and after a change the key of the
-- change finds what was put, or nothing, and each other key what it found before.
pub record AMapIsWhatItFinds : Type 0 where
  pub same : (m n : Map (List ℕ)) → Ascending m → Ascending n → ((k : List ℕ) → find m k ≡ find n k) → m ≡ n
  pub inserted : (m : Map (List ℕ)) (k v j : List ℕ) → find (insert m k v) j ≡ cond (bytes_eq k j) (Some v) (find m j)
  pub removed : (m : Map (List ℕ)) (k j : List ℕ) → find (remove m k) j ≡ cond (bytes_eq k j) None (find m j)
  pub insert_ascends : (m : Map (List ℕ)) (k v : List ℕ) → Ascending m → Ascending (insert m k v)
  pub remove_ascends : (m : Map (List ℕ)) (k : List ℕ) → Ascending m → Ascending (remove m k)
