-- A try as a step.
use Rattle.std.proofs.Common.{◌≡◌, ℕ, ◌-◌, Bool, true, false, cond, not, ◌||◌, ltb, leb, List, length, take, set, Some, None, Ok, Err, Option, Result, sym, refl, ap, ◌∙◌, subst, ⊎_elim, arith}
use Rattle.std.proofs.lemmas.Bool.{cases_Bool}
use Rattle.refusal.specs.declared.Cause.TheVariants.{Silent}
use Rattle.refusal.specs.declared.Refusal.{Refusal}
use Rattle.refusal.specs.declared.Refusal.TheVariants.{UnknownParty, UnknownCloud, SlotNotReady, CloudNotListed, BufferTooShort, ValueMismatch}
use Rattle.entry.specs.Clouds.{lists}
use Rattle.cloud.specs.Meaning.{CloudMeaning}
use Rattle.cloud.specs.Outcomes.{Length, GetOutcome}
use Rattle.row.specs.Rows.{Called, If}
use Rattle.directory.specs.Meaning.{DirectoryMeaning}
use Rattle.protocol.specs.Slots.{SlotValue, FetchingValue, idle, saving, fetching, sweeping, is_fetching, of_fetching}
use Rattle.protocol.specs.State.{Setting, State, valid_party, slot_at, slot_of, with_slot, with_clouds}
use Rattle.protocol.specs.Calls.{try_cloud}
use Rattle.protocol.specs.Events.{tried}
use Rattle.protocol.specs.Grounds.{first_ground}
use Rattle.protocol.specs.Steps.{or_refused, fetch_name, fetching_of, is_saved_value, try_answer, after_try, Step}
use Rattle.slots.specs.Values.{when}
use Rattle.slots.specs.Grounds.{try_ground}
use Rattle.trying.specs.Tried.{Tried}
use Rattle.locker.specs.Held.{by_ground}
use Rattle.locker.proofs.Grounds.{allowing, passed, known_party, or_first, two}

-- ---- the checks before

-- the buffer is too short for what is fetched
abbrev pub room_ground : SlotValue → List ℕ → Option Refusal
room_ground slot b = cond (of_fetching slot (λ x. ltb (length b) x.live.size) || false) (Some BufferTooShort) None

module _ (S : Setting) (s : State) (p n i : ℕ) (b : List ℕ)
    (party : Ok n ≡ or_refused (when (not (valid_party p)) UnknownParty) p)
    (there : Ok (tt {0}) ≡ or_refused (when (leb S.clouds i) UnknownCloud) (tt {0})) where
  ground_is : first_ground S (try_cloud n i b) s ≡ or_first (try_ground (slot_of s n) i) (room_ground (slot_of s n) b)
  ground_is =
      rw ((known_party p n party).0, (passed (leb S.clouds i) UnknownCloud (tt {0}) (tt {0}) there).0)
      (two (not (is_fetching (slot_of s n))) (of_fetching (slot_of s n) (λ x. not (lists x.live.clouds i))) SlotNotReady CloudNotListed (room_ground (slot_of s n) b))

  -- only the buffer can be too short, and this is the fetch that the slot has
  pub try_allowed : (x : FetchingValue) → Ok x ≡ or_refused (try_ground (slot_at s.slots n) i) (fetching_of (slot_at s.slots n))
      → (first_ground S (try_cloud p i b) s ≡ cond (ltb (length b) (fetching_of (slot_of s p)).live.size) (Some BufferTooShort) None) × (x ≡ fetching_of (slot_of s p))
  try_allowed x judged =
      let is = allowing (try_ground (slot_of s n) i) x (fetching_of (slot_of s n)) judged in
      let known = known_party p n party in (
        subst (λ (k : ℕ). first_ground S (try_cloud k i b) s ≡ cond (ltb (length b) (fetching_of (slot_of s k)).live.size) (Some BufferTooShort) None) known.1
            (ground_is ∙ ap (λ o. or_first o (room_ground (slot_of s n) b)) is.0 ∙ room (slot_of s n) is.0),
        is.1 ∙ ap (λ (k : ℕ). fetching_of (slot_of s k)) known.1,
      )
    where
      or_false : (t : Bool) → (t || false) ≡ t
      or_false true = refl
      or_false false = refl

      room : (slot : SlotValue) → try_ground slot i ≡ None → room_ground slot b ≡ cond (ltb (length b) (fetching_of slot).live.size) (Some BufferTooShort) None
      room idle h = absurd (grind arith)
      room (saving x) h = absurd (grind arith)
      room (fetching x) h = ap (λ t. cond t (Some BufferTooShort) None) (or_false (ltb (length b) x.live.size))
      room (sweeping x) h = absurd (grind arith)

-- ---- what is left

left_by_failure : (S : Setting) (s : State) (p i : ℕ) (x : FetchingValue) (said : Length) (part : List ℕ) (e : Refusal) → Err e ≡ try_answer S x i said part → after_try S s p x said part ≡ s
left_by_failure S s p i x (Err c) part e h = refl
left_by_failure S s p i x (Ok n) part e h =
    ⊎_elim (λ (t : is_saved_value S x.live n part ≡ true). absurd (let no : Err e ≡ Ok x.live.size = h ∙ ap (λ b. cond b (Ok x.live.size) (Err ValueMismatch)) t in grind arith))
    (λ (f : is_saved_value S x.live n part ≡ false). ap (λ b. cond b (with_slot s p idle) s) f)
    (cases_Bool (is_saved_value S x.live n part))

left_by_success : (S : Setting) (s : State) (p i : ℕ) (x : FetchingValue) (said : Length) (part : List ℕ) (k : ℕ) → Ok k ≡ try_answer S x i said part → after_try S s p x said part ≡ with_slot s p idle
left_by_success S s p i x (Err c) part k h = absurd (grind arith)
left_by_success S s p i x (Ok n) part k h =
    ⊎_elim (λ (t : is_saved_value S x.live n part ≡ true). ap (λ b. cond b (with_slot s p idle) s) t)
    (λ (f : is_saved_value S x.live n part ≡ false). absurd (let no : Ok k ≡ Err ValueMismatch = h ∙ ap (λ b. cond b (Ok x.live.size) (Err ValueMismatch)) f in grind arith))
    (cases_Bool (is_saved_value S x.live n part))

-- ---- the ends, over any row

module _ {Row : Type 0} (clouds : Row → List CloudMeaning) (gets : Row → ℕ → List ℕ → List ℕ → Length → List ℕ → Row → Type 0)
    (getting : (s : Row) (i : ℕ) (name part : List ℕ) (r : Length) (part' : List ℕ) (t : Row) → gets s i name part r part' t → Called (clouds s) i (clouds t) (λ m m'. GetOutcome m name part r part' m') ((r ≡ Err Silent) × (part' ≡ part)))
    (S : Setting) (d : DirectoryMeaning) (ss : List SlotValue) (row row' : Row) (p i : ℕ) (b b' : List ℕ) where
  abbrev before : State
  before = record { directory = d; clouds = clouds row; slots = ss }

  abbrev x : FetchingValue
  x = fetching_of (slot_of before p)

  -- what is known of a try for the fetch y that answered r
  abbrev pub TriedFor : FetchingValue → Result ℕ Refusal → Type 0
  TriedFor y r = Tried (λ said got. gets row i (fetch_name y) (take y.live.size b) said got row') S.digested i y b b' r

  abbrev pub TryEnd : FetchingValue → Result ℕ Refusal → Type 0
  TryEnd y r = If (ltb (length b) y.live.size) ((r ≡ Err BufferTooShort) × ((b' ≡ b) × (row' ≡ row))) (TriedFor y r)

  abbrev pub Ends : Result ℕ Refusal → List SlotValue → Type 0
  Ends r ss' =
      Step S before (tried p i b b' r) (record { directory = d; clouds = clouds row'; slots = ss' })
      × by_ground (first_ground S (try_cloud p i b) before) (TriedFor x r) (row' ≡ row)

  asked : (r : Result ℕ Refusal) (ss' : List SlotValue) → first_ground S (try_cloud p i b) before ≡ None → (t : TriedFor x r)
      → record { directory = d; clouds = clouds row; slots = ss' } ≡ after_try S before p x t.said t.part → Ends r ss'
  asked r ss' ground t left =
      rw ground (
        (
          record {
            said = t.said;
            part = t.part;
            whole = t.whole;
            cloud = getting row i (fetch_name x) (take x.live.size b) t.said t.part row' t.asked;
            answers = t.answers;
            writes = t.writes;
            leaves = ap (λ (u : State). with_clouds u (clouds row')) left;
          },
          tt,
        ),
        t,
      )

  pub try_failed : (e : Refusal) → first_ground S (try_cloud p i b) before ≡ cond (ltb (length b) x.live.size) (Some BufferTooShort) None → TryEnd x (Err e) → Ends (Err e) ss
  try_failed e ground end =
      ⊎_elim
      (λ (t : ltb (length b) x.live.size ≡ true).
      let f : (Err e ≡ Err BufferTooShort) × ((b' ≡ b) × (row' ≡ row)) = rw t at end in
      let g : first_ground S (try_cloud p i b) before ≡ Some BufferTooShort = ground ∙ ap (λ q. cond q (Some BufferTooShort) None) t in
      rw g (((f.0, ap (λ (q : Row). record { directory = d; clouds = clouds q; slots = ss }) f.1.1), f.1.0), f.1.1))
      (λ (t : ltb (length b) x.live.size ≡ false).
      let f : TriedFor x (Err e) = rw t at end in
      let g : first_ground S (try_cloud p i b) before ≡ None = ground ∙ ap (λ q. cond q (Some BufferTooShort) None) t in
      asked (Err e) ss g f (sym (left_by_failure S before p i x f.said f.part e f.answers)))
      (cases_Bool (ltb (length b) x.live.size))

  pub try_done : (k : ℕ) (ss' : List SlotValue) → first_ground S (try_cloud p i b) before ≡ cond (ltb (length b) x.live.size) (Some BufferTooShort) None → TryEnd x (Ok k) → ss' ≡ set ss (p - 1) idle → Ends (Ok k) ss'
  try_done k ss' ground end turned =
      ⊎_elim
      (λ (t : ltb (length b) x.live.size ≡ true).
      let f : (Ok k ≡ Err BufferTooShort) × ((b' ≡ b) × (row' ≡ row)) = rw t at end in
      absurd (let no = f.0 in grind arith))
      (λ (t : ltb (length b) x.live.size ≡ false).
      let f : TriedFor x (Ok k) = rw t at end in
      let g : first_ground S (try_cloud p i b) before ≡ None = ground ∙ ap (λ q. cond q (Some BufferTooShort) None) t in
      asked (Ok k) ss' g f
      (ap (λ (q : List SlotValue). record { directory = d; clouds = clouds row; slots = q }) turned ∙ sym (left_by_success S before p i x f.said f.part k f.answers)))
      (cases_Bool (ltb (length b) x.live.size))
