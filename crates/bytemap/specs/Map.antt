-- Maps from byte strings: a list of keys with their values, the keys ascending, so that equal maps are equal lists.
use Rattle.std.specs.Prelude.{◌≡◌, ℕ, Bool, true, cond, not, ◌&&◌, List, [], ◌∷◌, map, is_some, Some, None, Option}
use Rattle.std.specs.List.{position}
use Rattle.std.specs.Str.{bytes_eq}
use Rattle.byte_strings.specs.Order.{below}

abbrev pub Map : Type 0 → Type 0
Map V = List (List ℕ × V)

-- the value under a key
unfoldable pub find : {V : Type 0} → Map V → List ℕ → Option V
find [] k = None
find (p ∷ m) k = cond (bytes_eq p.0 k) (Some p.1) (find m k)

-- the map with a value put under a key
unfoldable pub insert : {V : Type 0} → Map V → List ℕ → V → Map V
insert [] k v = (k, v) ∷ []
insert (p ∷ m) k v = cond (below k p.0) ((k, v) ∷ (p ∷ m)) (cond (bytes_eq p.0 k) ((k, v) ∷ m) (p ∷ insert m k v))

-- the map without a key
unfoldable pub remove : {V : Type 0} → Map V → List ℕ → Map V
remove [] k = []
remove (p ∷ m) k = cond (bytes_eq p.0 k) (remove m k) (p ∷ remove m k)

-- the smallest key above a byte string
unfoldable pub next_key : {V : Type 0} → Map V → List ℕ → Option (List ℕ)
next_key [] a = None
next_key (p ∷ m) a = cond (below a p.0) (Some p.0) (next_key m a)

-- what a map has above a byte string
unfoldable pub beyond : {V : Type 0} → List ℕ → Map V → Map V
beyond a [] = []
beyond a (p ∷ m) = cond (below a p.0) (p ∷ beyond a m) (beyond a m)

abbrev pub keys : {V : Type 0} → Map V → List (List ℕ)
keys m = map (λ p. p.0) m

-- each key is above the given one
abbrev pub AllAbove : {V : Type 0} → List ℕ → Map V → Type 0
AllAbove a [] = Unit {0}
AllAbove a (p ∷ m) = (below a p.0 ≡ true) × AllAbove a m

-- the keys ascend, so none stands twice
abbrev pub Ascending : {V : Type 0} → Map V → Type 0
Ascending [] = Unit {0}
Ascending (p ∷ m) = AllAbove p.0 m × Ascending m

-- pairs in any order, made into a map: of two with the same key the first counts
unfoldable pub gathered : {V : Type 0} → List (List ℕ × V) → Map V
gathered [] = []
gathered (p ∷ ps) = insert (gathered ps) p.0 p.1

-- no key stands twice
abbrev pub Distinct : {V : Type 0} → List (List ℕ × V) → Type 0
Distinct [] = Unit {0}
Distinct (p ∷ ps) = (find ps p.0 ≡ None) × Distinct ps

-- whether no key stands twice
abbrev pub all_different : {V : Type 0} → List (List ℕ × V) → Bool
all_different [] = true
all_different (p ∷ ps) = not (is_some (find ps p.0)) && all_different ps

-- the index of the first pair with a key
abbrev pub place_of : {V : Type 0} → List (List ℕ × V) → List ℕ → Option ℕ
place_of ps k = position (λ p. bytes_eq p.0 k) ps
