-- Orders, and the order of byte strings.
use Rattle.std.specs.Prelude.{◌≡◌, ℕ, Bool, true, false, cond, not, ◌⊎◌, List, [], ◌∷◌, ◌==◌, nat_lt}

-- An order in which any two elements can be compared. Two that are at most each other may still differ.
pub record TotalPreorder {X : Type 0} (le : X → X → Bool) : Type 0 where
  pub reflexive : (x : X) → le x x ≡ true
  pub transitive : (x y z : X) → le x y ≡ true → le y z ≡ true → le x z ≡ true
  pub total : (x y : X) → (le x y ≡ true) ⊎ (le y x ≡ true)

-- In a total order two elements that are at most each other are the same.
pub record TotalOrder {X : Type 0} (le : X → X → Bool) : Type 0 where
  pub preorder : TotalPreorder le
  pub antisymmetric : (x y : X) → le x y ≡ true → le y x ≡ true → x ≡ y

-- Of two elements exactly one is smaller, or they are the same.
pub record StrictTotalOrder {X : Type 0} (lt : X → X → Bool) : Type 0 where
  pub irreflexive : (x : X) → lt x x ≡ false
  pub transitive : (x y z : X) → lt x y ≡ true → lt y z ≡ true → lt x z ≡ true
  pub trichotomous : (x y : X) → (lt x y ≡ true) ⊎ ((x ≡ y) ⊎ (lt y x ≡ true))

-- What is at least an element that passes the test passes it too.
abbrev pub UpwardClosed : {X : Type 0} → (X → X → Bool) → (X → Bool) → Type 0
UpwardClosed {X} le passes = (x y : X) → passes x ≡ true → le x y ≡ true → passes y ≡ true

-- Of two byte strings the first byte that differs decides, and a string comes before what extends it.
unfoldable pub at_most : List ℕ → List ℕ → Bool
at_most [] ys = true
at_most (x ∷ xs) [] = false
at_most (x ∷ xs) (y ∷ ys) = cond (x == y) (at_most xs ys) (nat_lt x y)

abbrev pub below : List ℕ → List ℕ → Bool
below xs ys = not (at_most ys xs)

-- Theorem: the order of byte strings is total.
abbrev pub ByteStringsAreOrdered : Type 0
ByteStringsAreOrdered = TotalOrder at_most

-- Theorem: so is the strict one.
abbrev pub ByteStringsAreStrictlyOrdered : Type 0
ByteStringsAreStrictlyOrdered = StrictTotalOrder below
