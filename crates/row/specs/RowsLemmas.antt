-- A call at a cloud of a row, by the rows that it is made of.
use Rattle.std.specs.Prelude.{◌≡◌, ℕ, zero, suc, ◌-◌, ◌<◌, ◌≤◌, true, false, ltb, List, [], ◌∷◌, ◌++◌, length, nat_lt, slice_index_or, refl}
use Rattle.std.proofs.Common.{◌∙◌, ap, ⊎_elim, arith, length-set, length-append, ltb-true, ltb-false}
use Rattle.std.proofs.lemmas.List.{get_or_append_left, set-append_left, get_or-append_right, set-append_right}
use Rattle.std.proofs.lemmas.Bool.{cases_Bool, cases_lt, ne_eqb}
use Rattle.std.proofs.lemmas.Bool.Decides.{nat_tests}
use Rattle.std.specs.Option.{option_and_then}
use Rattle.cloud.specs.Meaning.{CloudMeaning, WithinLimits}
use Rattle.row.specs.Rows.{no_cloud, number_past, Called, AtOnly, AtSide}

-- ---- a row of one cloud

pub called_single : {S : Type 0} (f : S → CloudMeaning) (s t : S) (i : ℕ) {R : CloudMeaning → CloudMeaning → Type 0} {U P : Type 0} → (P → R (f s) (f t)) → AtOnly s t i P U → Called (f s ∷ []) i (f t ∷ []) R U
called_single f s t zero h c = record { here = λ _. h c; others = refl; unknown = λ l. absurd (omega arith) }
called_single f s t (suc i) {U = U} h c =
    let d : U × (t ≡ s) = rw (ne_eqb (suc i) 0 (λ e. omega arith)) at c in
    record { here = λ l. absurd (omega arith); others = ap (λ x. f x ∷ []) d.1; unknown = λ _. d.0 }

-- ---- two rows joined

module _ (R : CloudMeaning → CloudMeaning → Type 0) (U : Type 0) where
  called_length : (ms ms' : List CloudMeaning) (i : ℕ) → Called ms i ms' R U → length ms' ≡ length ms
  called_length ms ms' i c = ap length c.others ∙ simp length-set

  pub called_left : (ls ls' rs : List CloudMeaning) (i : ℕ) → i < length ls → Called ls i ls' R U → Called (ls ++ rs) i (ls' ++ rs) R U
  called_left ls ls' rs i l c =
      let l' : i < length ls' = omega (arith, called_length ls ls' i c) in
      record {
        here = λ _. rw (get_or_append_left ls rs no_cloud i l, get_or_append_left ls' rs no_cloud i l') (c.here l);
        others = rw (get_or_append_left ls' rs no_cloud i l', set-append_left ls rs i (slice_index_or ls' i no_cloud) l) (ap (λ x. x ++ rs) c.others);
        unknown = λ u. absurd (omega (arith, length-append ls rs));
      }

  pub called_right : (ls rs rs' : List CloudMeaning) (i : ℕ) → length ls ≤ i → Called rs (i - length ls) rs' R U → Called (ls ++ rs) i (ls ++ rs') R U
  called_right ls rs rs' i l c =
      let n = length ls in
      record {
        here = λ h. rw (get_or-append_right ls rs n i no_cloud refl l, get_or-append_right ls rs' n i no_cloud refl l) (c.here (omega (arith, length-append ls rs)));
        others = rw (get_or-append_right ls rs' n i no_cloud refl l, set-append_right ls rs n i (slice_index_or rs' (i - n) no_cloud) refl l) (ap (λ x. ls ++ x) c.others);
        unknown = λ u. c.unknown (omega (arith, length-append ls rs));
      }

-- the side that a number belongs to
pub called_pair : {L M : Type 0} (f : L → List CloudMeaning) (g : M → List CloudMeaning) (l l' : L) (r r' : M) (i : ℕ) {R : CloudMeaning → CloudMeaning → Type 0} {U : Type 0} {P Q : ℕ → Type 0}
    → ((j : ℕ) → P j → Called (f l) j (f l') R U) → ((j : ℕ) → Q j → Called (g r) j (g r') R U)
    → AtSide (length (f l)) l l' r r' i P Q → Called (f l ++ g r) i (f l' ++ g r') R U
called_pair f g l l' r r' i {R} {U} {P} {Q} left right c =
    let n = length (f l) in
    ⊎_elim (λ (b : ltb i n ≡ true). let d : P i × (r' ≡ r) = rw b at c in rw d.1 (called_left R U (f l) (f l') (g r) i (ltb-true i n b) (left i d.0)))
    (λ (b : ltb i n ≡ false). let d : Q (i - n) × (l' ≡ l) = rw b at c in rw d.1 (called_right R U (f l) (g r) (g r') i (ltb-false i n b) (right (i - n) d.0)))
    (cases_Bool (nat_lt i n))

-- ---- numbers past a row

pub past_pair : (ls rs : List CloudMeaning) (i : ℕ) → number_past (ls ++ rs) i ≡ option_and_then (number_past rs) (number_past ls i)
past_pair ls rs i = let e = length-append ls rs in grind (arith, nat_tests)

-- ---- limits

pub pair_limited : (ls rs : List CloudMeaning) → ((i : ℕ) → i < length ls → WithinLimits (slice_index_or ls i no_cloud)) → ((i : ℕ) → i < length rs → WithinLimits (slice_index_or rs i no_cloud))
    → (i : ℕ) → i < length (ls ++ rs) → WithinLimits (slice_index_or (ls ++ rs) i no_cloud)
pair_limited ls rs left right i h =
    ⊎_elim (λ (l : i < length ls). rw (get_or_append_left ls rs no_cloud i l) (left i l))
    (λ (l : length ls ≤ i). rw (get_or-append_right ls rs (length ls) i no_cloud refl l) (right (i - length ls) (omega (arith, length-append ls rs))))
    (cases_lt i (length ls))
