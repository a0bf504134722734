-- The smallest of those elements of a list that pass a test.
use Rattle.std.specs.Prelude.{◌≡◌, ℕ, ◌<◌, Bool, true, false, List, Some, None, Option, slice_index_or}

-- None of the first n elements passes.
abbrev pub NonePasses : {X : Type 0} → (X → Bool) → List X → ℕ → Type 0
NonePasses {X} passes xs n = (k : ℕ) → k < n → (d : X) → passes (slice_index_or xs k d) ≡ false

-- Of the first n elements the one at i passes and is at most each that passes; it is the first such one.
pub record LeastAt {X : Type 0} (passes : X → Bool) (le : X → X → Bool) (xs : List X) (n i : ℕ) : Type 0 where
  pub within : i < n
  pub passing : (d : X) → passes (slice_index_or xs i d) ≡ true
  pub least : (k : ℕ) → k < n → (d : X) → passes (slice_index_or xs k d) ≡ true → le (slice_index_or xs i d) (slice_index_or xs k d) ≡ true
  pub first : (k : ℕ) → k < i → (d : X) → passes (slice_index_or xs k d) ≡ true → le (slice_index_or xs k d) (slice_index_or xs i d) ≡ false

-- Which of the first n elements it is, if any.
abbrev pub Least : {X : Type 0} → (X → Bool) → (X → X → Bool) → List X → ℕ → Option ℕ → Type 0
Least passes le xs n None = NonePasses passes xs n
Least passes le xs n (Some i) = LeastAt passes le xs n i
