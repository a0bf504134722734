-- A sweep that is allowed.
use Rattle.std.proofs.Common.{◌≡◌, ℕ, not, leb, None, Ok, refl, ap, ◌∙◌, subst}
use Rattle.refusal.specs.declared.Refusal.TheVariants.{UnknownParty, UnknownCloud, SlotNotReady}
use Rattle.protocol.specs.Slots.{SweepingValue, is_sweeping}
use Rattle.protocol.specs.State.{Setting, State, valid_party, slot_at, slot_of}
use Rattle.protocol.specs.Calls.{sweep}
use Rattle.protocol.specs.Grounds.{first_ground}
use Rattle.protocol.specs.Steps.{or_refused, sweeping_of}
use Rattle.slots.specs.Values.{when}
use Rattle.locker.proofs.Grounds.{passed, known_party}

-- the sweep that the slot has; then no ground is left
pub sweep_there : (S : Setting) (s : State) (p n i : ℕ) (x : SweepingValue)
    → Ok n ≡ or_refused (when (not (valid_party p)) UnknownParty) p → Ok (tt {0}) ≡ or_refused (when (leb S.clouds i) UnknownCloud) (tt {0})
    → Ok x ≡ or_refused (when (not (is_sweeping (slot_at s.slots n))) SlotNotReady) (sweeping_of (slot_at s.slots n))
    → (first_ground S (sweep p i) s ≡ None) × (x ≡ sweeping_of (slot_of s p))
sweep_there S s p n i x party there found =
    let known = known_party p n party in
    let is = passed (not (is_sweeping (slot_of s n))) SlotNotReady x (sweeping_of (slot_of s n)) found in
    let cloud = passed (leb S.clouds i) UnknownCloud (tt {0}) (tt {0}) there in
    (subst (λ (k : ℕ). first_ground S (sweep k i) s ≡ None) known.1 (rw (known.0, cloud.0, is.0) refl), is.1 ∙ ap (λ (k : ℕ). sweeping_of (slot_of s k)) known.1)
