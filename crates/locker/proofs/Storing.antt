-- A store as a step.
use Rattle.std.proofs.Common.{◌≡◌, ℕ, ◌-◌, ◌≤◌, true, cond, not, ltb, leb, List, length, set, None, Ok, Err, Result, sym, refl, ap, ◌∙◌, subst, arith}
use Rattle.std.proofs.lemmas.Bool.{lt-ltb, leb-false}
use Rattle.refusal.specs.declared.Cause.TheVariants.{Silent}
use Rattle.refusal.specs.declared.CloudFault.{CloudFault}
use Rattle.refusal.specs.declared.Refusal.{Refusal}
use Rattle.refusal.specs.declared.Refusal.TheVariants.{UnknownParty, ValueTooLong, UnknownCloud, CloudRefused}
use Rattle.cloud.specs.Meaning.{CloudMeaning, longest_value}
use Rattle.cloud.specs.Outcomes.{Done, PutOutcome}
use Rattle.row.specs.Rows.{Called, numbered}
use Rattle.entry.specs.Clouds.{count, with_cloud}
use Rattle.protocol.specs.Slots.{SlotValue, SavingValue, saving}
use Rattle.protocol.specs.State.{Setting, State, valid_party, slot_at, slot_of, with_clouds}
use Rattle.protocol.specs.Calls.{store}
use Rattle.protocol.specs.Events.{stored}
use Rattle.protocol.specs.Grounds.{first_ground}
use Rattle.protocol.specs.Steps.{or_refused, save_name, saving_of, acknowledged, Step}
use Rattle.slots.specs.Values.{when}
use Rattle.slots.specs.Grounds.{store_ground}
use Rattle.locker.proofs.Grounds.{allowing, passed, known_party, store_by_slot}

-- ---- what the cloud said

pub fault_is : (i : ℕ) (done : Done) (fault : CloudFault) → Err fault ≡ numbered i done → (done ≡ Err fault.cause) × (fault.cloud ≡ i)
fault_is i (Ok t) fault h = absurd (grind arith)
fault_is i (Err e) fault h =
    let same : fault ≡ record { cloud = i; cause = e } = cc in
    (ap (λ (f : CloudFault). Err f.cause) (sym same), ap (λ (f : CloudFault). f.cloud) same)

-- ---- the checks before

module _ (S : Setting) (s : State) (p n i : ℕ) (v : List ℕ) (x : SavingValue)
    (party : Ok n ≡ or_refused (when (not (valid_party p)) UnknownParty) p)
    (short : Ok (tt {0}) ≡ or_refused (when (ltb longest_value (length v)) ValueTooLong) (tt {0}))
    (there : Ok (tt {0}) ≡ or_refused (when (leb S.clouds i) UnknownCloud) (tt {0})) where
  ground_is : first_ground S (store n i v) s ≡ store_ground S (slot_of s n) i v
  ground_is =
      store_by_slot S s n i v (known_party p n party).0 (passed (ltb longest_value (length v)) ValueTooLong (tt {0}) (tt {0}) short).0 (passed (leb S.clouds i) UnknownCloud (tt {0}) (tt {0}) there).0

  -- it is allowed, and this is the save that the slot has
  pub store_allowed : Ok x ≡ or_refused (store_ground S (slot_at s.slots n) i v) (saving_of (slot_at s.slots n)) → (first_ground S (store p i v) s ≡ None) × (x ≡ saving_of (slot_of s p))
  store_allowed judged =
      let is = allowing (store_ground S (slot_of s n) i v) x (saving_of (slot_of s n)) judged in
      let known = known_party p n party in
      (subst (λ (k : ℕ). first_ground S (store k i v) s ≡ None) known.1 (ground_is ∙ is.0), is.1 ∙ ap (λ (k : ℕ). saving_of (slot_of s k)) known.1)

-- a cloud of a row is one of seven, so that it can be marked
pub one_more : (x y : SavingValue) (i clouds : ℕ) → clouds ≤ 7 → Ok (tt {0}) ≡ or_refused (when (leb clouds i) UnknownCloud) (tt {0}) → x ≡ y
    → cond (ltb i 7) (acknowledged x i) x ≡ acknowledged y i
one_more x y i clouds few there same =
    let below = leb-false clouds i (passed (leb clouds i) UnknownCloud (tt {0}) (tt {0}) there).0 in
    let small : ltb i 7 ≡ true = lt-ltb i 7 (omega arith) in
    rw small (ap (λ (z : SavingValue). acknowledged z i) same)

-- ---- the two ends

module _ (S : Setting) (s : State) (p i : ℕ) (v : List ℕ) (ms' : List CloudMeaning) (ground : first_ground S (store p i v) s ≡ None) where
  abbrev pub CalledWith : Done → Type 0
  CalledWith said =
      Called s.clouds i ms' (λ m m'. PutOutcome m (save_name (saving_of (slot_of s p))) v said m') (said ≡ Err Silent)

  pub store_failed : (r : Result ℕ Refusal) (fault : CloudFault) → fault.cloud ≡ i → r ≡ Err (CloudRefused fault) → CalledWith (Err fault.cause) → Step S s (stored p i v r) (with_clouds s ms')
  store_failed r fault at h called =
      rw ground (record { said = Err fault.cause; cloud = called; answers = h ∙ ap (λ (k : ℕ). Err (CloudRefused (record { cloud = k; cause = fault.cause }))) at; leaves = refl })

  pub store_done : (k : ℕ) (ss' : List SlotValue) → k ≡ count (with_cloud (saving_of (slot_of s p)).stored i) → ss' ≡ set s.slots (p - 1) (saving (acknowledged (saving_of (slot_of s p)) i)) → CalledWith (Ok tt)
      → Step S s (stored p i v (Ok k)) (record { directory = s.directory; clouds = ms'; slots = ss' })
  store_done k ss' counted turned called =
      rw ground (record { said = Ok tt; cloud = called; answers = ap (λ (n : ℕ). Ok n) counted; leaves = ap (λ (ss : List SlotValue). record { directory = s.directory; clouds = ms'; slots = ss }) turned })
