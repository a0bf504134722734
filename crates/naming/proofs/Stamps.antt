-- Laws of stamps.
use Rattle.std.proofs.Common.{◌≡◌, ℕ, true, false, ◌⊎◌, ap, ◌∙◌, inl, inr, ⊎_elim, arith}
use Rattle.std.proofs.lemmas.Bool.Decides.{nat_tests}
use Rattle.std.proofs.lemmas.Bool.{cases_Bool}
use Rattle.naming.specs.Stamps.{StampValue, stamp_below, StampsAreOrdered, next_stamp}

-- ---- their order

pub stamp_below_irreflexive : (s : StampValue) → stamp_below s s ≡ false
unfolding stamp_below
stamp_below_irreflexive s = grind (arith, nat_tests)

pub stamp_below_transitive : (s t u : StampValue) → stamp_below s t ≡ true → stamp_below t u ≡ true → stamp_below s u ≡ true
unfolding stamp_below
stamp_below_transitive s t u p q = grind (arith, nat_tests)

pub same_stamp_value : (s t : StampValue) → s.sequence ≡ t.sequence → s.writer ≡ t.writer → s ≡ t
same_stamp_value s t p q =
    let of : ℕ → ℕ → StampValue = λ n w. record { sequence = n; writer = w } in
    ap (λ n. of n s.writer) p ∙ ap (λ w. of t.sequence w) q

-- Neither is below the other only where both parts are equal.
same_from_neither : (s t : StampValue) → stamp_below s t ≡ false → stamp_below t s ≡ false → (s.sequence ≡ t.sequence) × (s.writer ≡ t.writer)
unfolding stamp_below
same_from_neither s t p q = (grind (arith, nat_tests), grind (arith, nat_tests))

pub stamp_below_trichotomy : (s t : StampValue) → (stamp_below s t ≡ true) ⊎ ((s ≡ t) ⊎ (stamp_below t s ≡ true))
stamp_below_trichotomy s t =
    ⊎_elim inl (λ p. inr (⊎_elim inr (λ q. let e = same_from_neither s t p q in inl (same_stamp_value s t e.0 e.1)) (cases_Bool (stamp_below t s))))
    (cases_Bool (stamp_below s t))

pub stamps_are_ordered : StampsAreOrdered
stamps_are_ordered =
    record { irreflexive = stamp_below_irreflexive; transitive = stamp_below_transitive; trichotomous = stamp_below_trichotomy }

-- The next stamp is above, whoever writes.
pub below_next_stamp : (s : StampValue) (w : ℕ) → stamp_below s (next_stamp s w) ≡ true
unfolding stamp_below
below_next_stamp s w = grind (arith, nat_tests)
