-- The search for the smallest element that passes: one element more, and that the answer is the only one.
use Rattle.std.proofs.Common.{◌≡◌, ℕ, ◌+◌, ◌<◌, Bool, true, false, List, [], ◌∷◌, length, get_or, Some, None, Option, refl, ap, ⊎_elim, arith, below_more}
use Rattle.std.proofs.lemmas.Bool.{both_ways, cases_Bool, cases_order}
use Rattle.byte_strings.specs.Order.{TotalPreorder}
use Rattle.byte_strings.specs.Least.{NonePasses, LeastAt, Least}

not_true_is_false : (t : Bool) → (t ≡ true → ⊥) → t ≡ false
not_true_is_false t h = ⊎_elim (λ p. absurd (h p)) (λ p. p) (cases_Bool t)

-- The element x at i passes, and is smaller than y at b, the least before it.
module _ {X : Type 0} (passes : X → Bool) (le : X → X → Bool) (o : TotalPreorder le) (xs : List X) (i b : ℕ) (x y : X) (x_is : (d : X) → x ≡ get_or xs i d) (y_is : (d : X) → y ≡ get_or xs b d) (before : LeastAt passes le xs i b) (smaller : le y x ≡ false) where
  x_at_most_y : le x y ≡ true
  x_at_most_y = ⊎_elim (λ p. absurd (both_ways _ smaller p)) (λ p. p) (o.total y x)

  y_at_most : (k : ℕ) → k < i → (d : X) → passes (get_or xs k d) ≡ true → le y (get_or xs k d) ≡ true
  y_at_most k h d p = rw (y_is d) (before.least k h d p)

  x_at_most : (k : ℕ) → k < i → (d : X) → passes (get_or xs k d) ≡ true → le (get_or xs i d) (get_or xs k d) ≡ true
  x_at_most k h d p = rw (← x_is d) (o.transitive x y (get_or xs k d) x_at_most_y (y_at_most k h d p))

  none_at_most_x : (k : ℕ) → k < i → (d : X) → passes (get_or xs k d) ≡ true → le (get_or xs k d) (get_or xs i d) ≡ false
  none_at_most_x k h d p =
      rw (← x_is d)
      (not_true_is_false _ (λ q. both_ways _ smaller (o.transitive y (get_or xs k d) x (y_at_most k h d p) q)))

  pub least_take : passes x ≡ true → LeastAt passes le xs (i + 1) i
  least_take holds =
      record {
        within = omega arith;
        passing = λ d. rw (← x_is d) holds;
        least = below_more (λ k. (d : X) → passes (get_or xs k d) ≡ true → le (get_or xs i d) (get_or xs k d) ≡ true) i x_at_most (λ d p. o.reflexive _);
        first = none_at_most_x;
      }

an_element : {X : Type 0} (xs : List X) (i : ℕ) → i < length xs → X
an_element [] i h = absurd (omega arith)
an_element (x ∷ xs) i h = x

-- No two answers.
module _ {X : Type 0} (passes : X → Bool) (le : X → X → Bool) (xs : List X) where
  some_and_none : (i : ℕ) → LeastAt passes le xs (length xs) i → NonePasses passes xs (length xs) → ⊥
  some_and_none i p q =
      let d = an_element xs i p.within in both_ways _ (q i p.within d) (p.passing d)

  not_after : (i j : ℕ) → LeastAt passes le xs (length xs) i → LeastAt passes le xs (length xs) j → i < j → ⊥
  not_after i j p q h =
      let d = an_element xs i p.within in
      both_ways _ (q.first i h d (p.passing d)) (p.least j q.within d (q.passing d))

  pub least_only : (r s : Option ℕ) → Least passes le xs (length xs) r → Least passes le xs (length xs) s → r ≡ s
  least_only None None p q = refl
  least_only None (Some j) p q = absurd (some_and_none j q p)
  least_only (Some i) None p q = absurd (some_and_none i p q)
  least_only (Some i) (Some j) p q =
      ⊎_elim (ap Some) (⊎_elim (λ h. absurd (not_after i j p q h)) (λ h. absurd (not_after j i q p h))) (cases_order i j)
