-- What the checks before a call's work say of its first ground.
use Rattle.std.proofs.Common.{◌≡◌, ℕ, Bool, true, false, cond, not, ltb, leb, List, length, Some, None, Ok, Err, Option, sym, refl, ap, ◌∙◌, subst, arith}
use Rattle.std.proofs.lemmas.Bool.{le-leb}
use Rattle.refusal.specs.declared.Refusal.{Refusal}
use Rattle.refusal.specs.declared.Refusal.TheVariants.{UnknownParty, TooFewStored}
use Rattle.entry.specs.Entries.{EntryValue}
use Rattle.cloud.specs.Meaning.{longest_value}
use Rattle.directory.specs.declared.interface.CommitError.TheVariants.{Full}
use Rattle.directory.specs.Meaning.{DirectoryMeaning}
use Rattle.directory.specs.Calls.{commit_answer, commit_after}
use Rattle.entry.specs.Clouds.{count, chosen}
use Rattle.protocol.specs.Slots.{SlotValue, SavingValue, idle, saving, fetching, sweeping}
use Rattle.protocol.specs.State.{Setting, State, valid_party, slot_of}
use Rattle.protocol.specs.Calls.{store}
use Rattle.protocol.specs.Grounds.{first_ground}
use Rattle.protocol.specs.Steps.{or_refused, saving_of}
use Rattle.locker.specs.Held.{by_ground}
use Rattle.slots.specs.Values.{when}
use Rattle.slots.specs.Grounds.{store_ground, commit_ground}

-- ---- what a check answered

pub allowing : {X : Type 0} (o : Option Refusal) (y x : X) → Ok y ≡ or_refused o x → (o ≡ None) × (y ≡ x)
allowing None y x h = (refl, cc)
allowing (Some e) y x h = absurd (grind arith)

pub passed : {X : Type 0} (t : Bool) (u : Refusal) (y x : X) → Ok y ≡ or_refused (when t u) x → (t ≡ false) × (y ≡ x)
passed true u y x h = absurd (grind arith)
passed false u y x h = (refl, cc)

-- the party that is known, and its number
pub known_party : (p n : ℕ) → Ok n ≡ or_refused (when (not (valid_party p)) UnknownParty) p → (not (valid_party n) ≡ false) × (n ≡ p)
known_party p n h =
    let k = passed (not (valid_party p)) UnknownParty n p h in
    (subst (λ (m : ℕ). not (valid_party m) ≡ false) (sym k.1) k.0, k.1)

-- the row's clause of a call that nothing refuses before the cloud is asked
pub done_by : (ground : Option Refusal) (P Q : Type 0) → ground ≡ None → P → by_ground ground P Q
done_by ground P Q g x = rw g x

-- ---- grounds, and those after them

abbrev pub or_first : Option Refusal → Option Refusal → Option Refusal
or_first None rest = rest
or_first (Some e) rest = Some e

pub two : (a b : Bool) (x y : Refusal) (rest : Option Refusal) → cond a (Some x) (cond b (Some y) rest) ≡ or_first (cond a (Some x) (cond b (Some y) None)) rest
two true b x y rest = refl
two false true x y rest = refl
two false false x y rest = refl

-- ---- commit

-- no cloud at all is too few
none_counted : count 0 ≡ 0
unfolding count chosen
none_counted = refl

pub never_short : (faults : ℕ) (slot : SlotValue) (x : SavingValue) → Ok x ≡ or_refused (commit_ground faults slot) (saving_of slot) → x.stored ≡ 0 → ⊥
never_short faults slot x there none =
    let is = allowing (commit_ground faults slot) x (saving_of slot) there in
    too_few slot is.0 (ap (λ y. y.stored) (sym is.1) ∙ none)
  where
    too_few : (slot : SlotValue) → commit_ground faults slot ≡ None → (saving_of slot).stored ≡ 0 → ⊥
    too_few idle h z = grind arith
    too_few (saving y) h z =
        let few : leb (count y.stored) faults ≡ true = rw (z, none_counted) (le-leb 0 faults (omega arith)) in
        let no : Some TooFewStored ≡ None = rw few at h in
        grind arith
    too_few (fetching y) h z = grind arith
    too_few (sweeping y) h z = grind arith

-- a full directory keeps its entries
pub kept_when_full : (m : DirectoryMeaning) (c : ℕ) (k : List ℕ) (e : EntryValue) → Err Full ≡ commit_answer m c k e → commit_after m c k e ≡ m
unfolding commit_after
kept_when_full m c k e full = rw (← full) refl

-- ---- store

pub store_by_slot : (S : Setting) (s : State) (n i : ℕ) (v : List ℕ) → not (valid_party n) ≡ false → ltb longest_value (length v) ≡ false → leb S.clouds i ≡ false
    → first_ground S (store n i v) s ≡ store_ground S (slot_of s n) i v
store_by_slot S s n i v known short there = rw (known, short, there) refl
