-- Laws of the order of byte strings.
use Rattle.std.proofs.Common.{◌≡◌, ℕ, Bool, true, false, cond, not, eqb, ltb, ◌⊎◌, List, [], ◌∷◌, ◌++◌, refl, ap, inl, inr, ⊎_elim, arith}
use Rattle.std.proofs.lemmas.Bool.{cases_Bool, not-true}
use Rattle.std.proofs.lemmas.Bool.Decides.{nat_tests}
use Rattle.byte_strings.specs.Order.{at_most, below, TotalPreorder, UpwardClosed, ByteStringsAreOrdered, ByteStringsAreStrictlyOrdered}

pub at_most_reflexive : (xs : List ℕ) → at_most xs xs ≡ true
unfolding at_most
at_most_reflexive [] = refl
at_most_reflexive (x ∷ xs) = let h = at_most_reflexive xs in grind (arith, nat_tests)

pub at_most_transitive : (xs ys zs : List ℕ) → at_most xs ys ≡ true → at_most ys zs ≡ true → at_most xs zs ≡ true
unfolding at_most
at_most_transitive [] ys zs p q = refl
at_most_transitive (x ∷ xs) [] zs p q = grind arith
at_most_transitive (x ∷ xs) (y ∷ ys) [] p q = grind arith
at_most_transitive (x ∷ xs) (y ∷ ys) (z ∷ zs) p q = let h = at_most_transitive xs ys zs in grind (arith, nat_tests)

pub at_most_total : (xs ys : List ℕ) → at_most xs ys ≡ false → at_most ys xs ≡ true
unfolding at_most
at_most_total [] ys p = grind arith
at_most_total (x ∷ xs) [] p = refl
at_most_total (x ∷ xs) (y ∷ ys) p = let h = at_most_total xs ys in grind (arith, nat_tests)

pub at_most_antisymmetric : (xs ys : List ℕ) → at_most xs ys ≡ true → at_most ys xs ≡ true → xs ≡ ys
unfolding at_most
at_most_antisymmetric [] [] p q = refl
at_most_antisymmetric [] (y ∷ ys) p q = grind arith
at_most_antisymmetric (x ∷ xs) [] p q = grind arith
at_most_antisymmetric (x ∷ xs) (y ∷ ys) p q = let h = at_most_antisymmetric xs ys in grind (arith, nat_tests)

pub at_most_preorder : TotalPreorder at_most
at_most_preorder =
    record {
      reflexive = at_most_reflexive;
      transitive = at_most_transitive;
      total = λ xs ys. ⊎_elim inl (λ p. inr (at_most_total xs ys p)) (cases_Bool (at_most xs ys));
    }

pub byte_strings_are_ordered : ByteStringsAreOrdered
byte_strings_are_ordered = record { preorder = at_most_preorder; antisymmetric = at_most_antisymmetric }

-- ---- single steps

pub empty_at_most : (ys : List ℕ) → at_most [] ys ≡ true
unfolding at_most
empty_at_most ys = refl

pub below_empty : (xs : List ℕ) → below xs [] ≡ false
unfolding at_most
below_empty xs = refl

pub at_most_heads : (x y : ℕ) (xs ys : List ℕ) → at_most (x ∷ xs) (y ∷ ys) ≡ cond (eqb x y) (at_most xs ys) (ltb x y)
unfolding at_most
at_most_heads x y xs ys = refl

pub below_heads : (x y : ℕ) (xs ys : List ℕ) → below (x ∷ xs) (y ∷ ys) ≡ cond (eqb x y) (below xs ys) (ltb x y)
unfolding at_most
below_heads x y xs ys = grind (arith, nat_tests)

-- A common prefix does not matter.
pub at_most_prefix : (p xs ys : List ℕ) → at_most (p ++ xs) (p ++ ys) ≡ at_most xs ys
unfolding at_most
at_most_prefix [] xs ys = refl
at_most_prefix (x ∷ p) xs ys = let h = at_most_prefix p xs ys in grind (arith, nat_tests)

pub below_prefix : (p xs ys : List ℕ) → below (p ++ xs) (p ++ ys) ≡ below xs ys
below_prefix p xs ys = ap not (at_most_prefix p ys xs)

-- ---- the strict order

pub below_irreflexive : (xs : List ℕ) → below xs xs ≡ false
below_irreflexive xs = ap not (at_most_reflexive xs)

pub below_at_most : (xs ys : List ℕ) → below xs ys ≡ true → at_most xs ys ≡ true
below_at_most xs ys p = at_most_total ys xs (not-true (at_most ys xs) p)

pub below_or_at_most : (xs ys : List ℕ) → (below xs ys ≡ true) ⊎ (at_most ys xs ≡ true)
below_or_at_most xs ys = ⊎_elim inr (λ p. inl (ap not p)) (cases_Bool (at_most ys xs))

pub below_then_at_most : (xs ys zs : List ℕ) → below xs ys ≡ true → at_most ys zs ≡ true → below xs zs ≡ true
below_then_at_most xs ys zs p q = let h = at_most_transitive ys zs xs in grind arith

pub at_most_then_below : (xs ys zs : List ℕ) → at_most xs ys ≡ true → below ys zs ≡ true → below xs zs ≡ true
at_most_then_below xs ys zs p q = let h = at_most_transitive zs xs ys in grind arith

pub below_transitive : (xs ys zs : List ℕ) → below xs ys ≡ true → below ys zs ≡ true → below xs zs ≡ true
below_transitive xs ys zs p q = below_then_at_most xs ys zs p (below_at_most ys zs q)

pub below_trichotomy : (xs ys : List ℕ) → (below xs ys ≡ true) ⊎ ((xs ≡ ys) ⊎ (below ys xs ≡ true))
below_trichotomy xs ys =
    ⊎_elim inl (λ p. inr (⊎_elim inr (λ q. inl (at_most_antisymmetric xs ys q p)) (below_or_at_most ys xs)))
    (below_or_at_most xs ys)

pub byte_strings_are_strictly_ordered : ByteStringsAreStrictlyOrdered
byte_strings_are_strictly_ordered =
    record { irreflexive = below_irreflexive; transitive = below_transitive; trichotomous = below_trichotomy }

-- ---- elements that are ordered by something of theirs

module _ {X Y : Type 0} (f : X → Y) (le : Y → Y → Bool) where
  pub preorder_by : TotalPreorder le → TotalPreorder (λ x y. le (f x) (f y))
  preorder_by o =
      record {
        reflexive = λ x. o.reflexive (f x);
        transitive = λ x y z. o.transitive (f x) (f y) (f z);
        total = λ x y. o.total (f x) (f y);
      }

pub above_is_upward_closed : (q : List ℕ) → UpwardClosed at_most (below q)
above_is_upward_closed q xs ys p h = below_then_at_most q xs ys p h
