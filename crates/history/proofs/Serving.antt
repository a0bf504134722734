-- After a save is committed, one cloud of its list serves it until the next commit to its key.
use Rattle.std.proofs.Common.{◌≡◌, ℕ, suc, ◌-◌, Bool, true, false, cond, eqb, ◌⊎◌, List, get_or, set, Some, None, Option, sym, refl, ap, ◌∙◌, ⊎_elim, arith}
use Rattle.std.proofs.lemmas.Bool.{both_ways}
use Rattle.bytemap.specs.Map.{insert}
use Rattle.naming.specs.Stamps.{StampValue, stamp_below}
use Rattle.entry.specs.Entries.{EntryValue, LiveValue}
use Rattle.cloud.specs.Meaning.{CloudMeaning}
use Rattle.row.specs.Rows.{no_cloud}
use Rattle.directory.specs.Meaning.{DirectoryMeaning, address}
use Rattle.directory.specs.Calls.{entry_of, stamp_of}
use Rattle.protocol.specs.Slots.{SlotValue, SavingValue, SweepingValue, idle, saving, fetching, sweeping}
use Rattle.protocol.specs.State.{Setting, State, valid_party, slot_of, with_slot, with_clouds}
use Rattle.protocol.specs.Grounds.{saved_entry}
use Rattle.protocol.specs.Steps.{begun, acknowledged, new_stamp, deleted_entry}
use Rattle.history.specs.Deeds.{Deed, History, nothing, began, stores, commits_save, deletes, looks_first, looks_on, completes, ends, when, saved, erased, same_key, saved_at, commits, looks}
use Rattle.naming.proofs.Names.{names_are_distinct}
use Rattle.history.proofs.Clouds.{keeps_self, Keeps, AnyName, OtherThan, NotBelow}
use Rattle.history.proofs.Effects.{Effect, quiet, asked, began_one, stored_one, committed_one, passed, deleted_one, looked, looked_on, completed, ended, began_sweeping, swept_one, fetch, save_name}
use Rattle.history.specs.Promises.{IsSome, SomeIn, NoneIn, Run, start, then}
use Rattle.history.proofs.Kept.{entry_set, own, set_slots}
use Rattle.history.proofs.Always.{goes_on}
use Rattle.history.proofs.Stepped.{effect_of}
use Rattle.history.proofs.Invariant.{view, NotBy, Holds, SavingOk, SweepingOk, Inv}

-- ---- a save that stands

abbrev pub saved_live : SavingValue → LiveValue
saved_live x = record { clouds = x.stored; size = x.size; digest = x.digest }

-- a fetch of the save's key that has looked since remembers the save
abbrev pub Same : SavingValue → Type 0 → SlotValue → Type 0
Same x T idle = Unit {0}
Same x T (saving y) = Unit {0}
Same x T (fetching y) = T → y.container ≡ x.container → y.key ≡ x.key → (y.stamp ≡ x.stamp) × (y.live ≡ saved_live x)
Same x T (sweeping y) = Unit {0}

same_fewer : (x : SavingValue) {T T' : Type 0} (y : SlotValue) → (T' → T) → Same x T y → Same x T' y
same_fewer x idle f o = tt
same_fewer x (saving y) f o = tt
same_fewer x (fetching y) f o = λ t. o (f t)
same_fewer x (sweeping y) f o = tt

pub same_none : (x : SavingValue) (y : SlotValue) → Same x ⊥ y
same_none x idle = tt
same_none x (saving y) = tt
same_none x (fetching y) = λ t. absurd t
same_none x (sweeping y) = tt

-- The save x is its key's entry, and the cloud i holds it; L says which parties have looked since.
pub record Track (S : Setting) (x : SavingValue) (i : ℕ) (L : ℕ → Type 0) (w : State) : Type 0 where
  pub stands : entry_of w.directory x.container x.key ≡ Some (saved_entry x)
  pub sound : (get_or w.clouds i no_cloud).sound ≡ true
  pub holds : Holds S (get_or w.clouds i no_cloud) (save_name x) x.size x.digest
  pub fetches : (j : ℕ) → Same x (L (suc j)) (get_or w.slots j idle)

not_looked : (q : ℕ) (D : Deed) (h : History) → NotBy q D → IsSome (looks q D h) → ⊥
not_looked q nothing h n s = s
not_looked q (began p c k v) h n s = s
not_looked q (stores p i v) h n s = s
not_looked q (commits_save p) h n s = s
not_looked q (deletes p c k) h n s = s
not_looked q (looks_first p c k) h n s = rw n at s
not_looked q (looks_on p) h n s = rw n at s
not_looked q (completes p i v) h n s = s
not_looked q (ends p) h n s = s

when_none : {A : Type 0} (b : Bool) (a : A) → when b a ≡ None → b ≡ false
when_none true a e = absurd (grind arith)
when_none false a e = refl

module _ (S : Setting) (ms₀ : List CloudMeaning) (h : History) (w : State) (inv : Inv S ms₀ h w) (x : SavingValue) (i : ℕ) (L : ℕ → Type 0) (t : Track S x i L w) where
  Since : Deed → ℕ → Type 0
  Since D q = IsSome (looks q D h) ⊎ L q

  not_since : (D : Deed) (q : ℕ) → (IsSome (looks q D h) → ⊥) → Since D q → L q
  unfolding Since
  not_since D q n s = ⊎_elim (λ (a : IsSome (looks q D h)). absurd (n a)) (λ (b : L q). b) s

  -- the slots of parties that the deed does not concern
  same_others : (D : Deed) (j : ℕ) → NotBy (suc j) D → Same x (Since D (suc j)) (get_or w.slots j idle)
  same_others D j nb = same_fewer x (get_or w.slots j idle) (not_since D (suc j) (not_looked (suc j) D h nb)) (t.fetches j)

  same_set : (D : Deed) (p : ℕ) (y : SlotValue) → valid_party p ≡ true → ((j : ℕ) → eqb p (suc j) ≡ false → NotBy (suc j) D) → Same x (Since D p) y
      → (j : ℕ) → Same x (Since D (suc j)) (get_or (set w.slots (p - 1) y) j idle)
  same_set D p y valid nb mine = set_slots S ms₀ h w inv (λ q z. Same x (Since D q) z) p y valid mine (λ j apart. same_others D j (nb j apart))

  holds_on : (P : List ℕ → Type 0) (ms : List CloudMeaning) → Keeps P w.clouds ms → P (save_name x) → Holds S (get_or ms i no_cloud) (save_name x) x.size x.digest
  holds_on P ms keeps named =
      let o = t.holds in
      record { value = o.value; held = (keeps.each i).keeps t.sound (save_name x) named ∙ o.held; long = o.long; same = o.same }

  -- the entry of an equal key is the save
  stands_at : (c : ℕ) (k : List ℕ) → c ≡ x.container → k ≡ x.key → entry_of w.directory c k ≡ Some (saved_entry x)
  stands_at c k ec ek = ap (λ (n : ℕ). entry_of w.directory n k) ec ∙ ap (λ (l : List ℕ). entry_of w.directory x.container l) ek ∙ t.stands

  stamp_at : (c : ℕ) (k : List ℕ) → c ≡ x.container → k ≡ x.key → stamp_of (entry_of w.directory c k) ≡ x.stamp
  stamp_at c k ec ek = ap (λ (o : Option EntryValue). stamp_of o) (stands_at c k ec ek)

  -- no store writes under the name of the save that stands
  store_elsewhere : (p : ℕ) (y : SavingValue) → valid_party p ≡ true → slot_of w p ≡ saving y → save_name y ≡ save_name x → ⊥
  store_elsewhere p y valid at e =
      let o : SavingOk S ms₀ w.directory w.clouds (view p h) p y = own S ms₀ h w inv p valid (saving y) at in
      let (ec, ek, et) = names_are_distinct y.container x.container y.key x.key y.stamp x.stamp e in
      o.other (stamp_at y.container y.key ec ek ∙ sym et)

  -- no sweep drops the name of the save that stands
  sweep_elsewhere : (p : ℕ) (y : SweepingValue) → valid_party p ≡ true → slot_of w p ≡ sweeping y → NotBelow y.container y.key y.stamp (save_name x)
  sweep_elsewhere p y valid at u e low =
      let o : SweepingOk S ms₀ w.directory w.clouds (view p h) p y = own S ms₀ h w inv p valid (sweeping y) at in
      let (ec, ek, et) = names_are_distinct x.container y.container x.key y.key x.stamp u e in
      both_ways (stamp_below (stamp_of (entry_of w.directory y.container y.key)) y.stamp) o.low
      (ap (λ (v : StampValue). stamp_below v y.stamp) (stamp_at y.container y.key (sym ec) (sym ek) ∙ et) ∙ low)

  entry_kept : (d : DirectoryMeaning) (c : ℕ) (k : List ℕ) (e : EntryValue) → d.entries ≡ insert w.directory.entries (address c k) e → same_key c k x.container x.key ≡ false
      → entry_of d x.container x.key ≡ Some (saved_entry x)
  entry_kept d c k e is other =
      entry_set w.directory d c k e is x.container x.key
      ∙ ap (λ (b : Bool). cond b (Some e) (entry_of w.directory x.container x.key)) other ∙ t.stands

  same_look : (c : ℕ) (k : List ℕ) (e : EntryValue) (l : LiveValue) (T : Type 0) → entry_of w.directory c k ≡ Some e → e.live ≡ Some l → Same x T (fetch c k e.stamp l)
  same_look c k e l T is live _ ec ek =
      let both : Some e ≡ Some (saved_entry x) = sym is ∙ stands_at c k ec ek in
      let same : e ≡ saved_entry x = cc both in
      let lives : Some l ≡ Some (saved_live x) = sym live ∙ ap (λ (z : EntryValue). z.live) same in
      (ap (λ (z : EntryValue). z.stamp) same, cc lives)

  -- clouds change, and slots do not
  tracked_clouds : (P : List ℕ → Type 0) (ms : List CloudMeaning) → Keeps P w.clouds ms → P (save_name x) → Track S x i (Since nothing) (with_clouds w ms)
  tracked_clouds P ms keeps named = record { stands = t.stands; sound = (keeps.each i).stays t.sound; holds = holds_on P ms keeps named; fetches = λ j. same_others nothing j tt }

  -- a slot changes
  tracked_slot : (D : Deed) (p : ℕ) (y : SlotValue) (P : List ℕ → Type 0) (ms : List CloudMeaning) → valid_party p ≡ true → ((j : ℕ) → eqb p (suc j) ≡ false → NotBy (suc j) D)
      → Keeps P w.clouds ms → P (save_name x) → Same x (Since D p) y → Track S x i (Since D) (with_slot (with_clouds w ms) p y)
  tracked_slot D p y P ms valid nb keeps named mine = record { stands = t.stands; sound = (keeps.each i).stays t.sound; holds = holds_on P ms keeps named; fetches = same_set D p y valid nb mine }

track : {S : Setting} {ms₀ : List CloudMeaning} {h : History} {w : State} {x : SavingValue} {i : ℕ} {L : ℕ → Type 0} {D : Deed} {z : State}
    → Inv S ms₀ h w → Track S x i L w → Effect S w D z → commits x.container x.key D h ≡ None → Track S x i (λ q. IsSome (looks q D h) ⊎ L q) z
unfolding Since
track {S} {ms₀} {h} {w} {x} {i} {L} inv t quiet n = record { stands = t.stands; sound = t.sound; holds = t.holds; fetches = λ j. same_others S ms₀ h w inv x i L t nothing j tt }
track {S} {ms₀} {h} {w} {x} {i} {L} inv t (asked ms keeps) n = tracked_clouds S ms₀ h w inv x i L t AnyName ms keeps tt
track {S} {ms₀} {h} {w} {x} {i} {L} inv t (began_one p c k v valid at) n =
    tracked_slot S ms₀ h w inv x i L t (began p c k v) p (saving (begun S w p c k v)) AnyName w.clouds valid (λ j apart. apart) (keeps_self AnyName w.clouds) tt tt
track {S} {ms₀} {h} {w} {x} {i} {L} inv t (stored_one p j v y ms valid at known size digest keeps others holds) n =
    tracked_slot S ms₀ h w inv x i L t (stores p j v) p (saving (acknowledged y j)) (OtherThan (save_name y)) ms valid (λ j apart. apart) keeps (store_elsewhere S ms₀ h w inv x i L t p y valid at) tt
track {S} {ms₀} {h} {w} {x} {i} {L} inv t (committed_one p y d valid at enough low is) n =
    let o : SavingOk S ms₀ w.directory w.clouds (view p h) p y = own S ms₀ h w inv p valid (saving y) at in
    let elsewhere : when (same_key y.container y.key x.container x.key) (saved o.value) ≡ None = sym (ap (λ (b : Option (ℕ × List ℕ × List ℕ)). saved_at x.container x.key b) o.begun_with) ∙ n in
    record {
      stands = entry_kept S ms₀ h w inv x i L t d y.container y.key (saved_entry y) is (when_none (same_key y.container y.key x.container x.key) (saved o.value) elsewhere);
      sound = t.sound;
      holds = t.holds;
      fetches = same_set S ms₀ h w inv x i L t (commits_save p) p idle valid (λ j apart. apart) tt;
    }
track {S} {ms₀} {h} {w} {x} {i} {L} inv t (passed p y valid at) n =
    tracked_slot S ms₀ h w inv x i L t nothing p idle AnyName w.clouds valid (λ j apart. tt) (keeps_self AnyName w.clouds) tt tt
track {S} {ms₀} {h} {w} {x} {i} {L} inv t (deleted_one p c k d valid at is) n = record {
  stands = entry_kept S ms₀ h w inv x i L t d c k (deleted_entry (new_stamp w p c k)) is (when_none (same_key c k x.container x.key) erased n);
  sound = t.sound;
  holds = t.holds;
  fetches = λ j. same_fewer x (get_or w.slots j idle) (not_since S ms₀ h w inv x i L t (deletes p c k) (suc j) (λ a. a)) (t.fetches j);
}
track {S} {ms₀} {h} {w} {x} {i} {L} inv t (looked p c k e l valid at is live) n =
    tracked_slot S ms₀ h w inv x i L t (looks_first p c k) p (fetch c k e.stamp l) AnyName w.clouds valid (λ j apart. apart) (keeps_self AnyName w.clouds) tt
    (same_look S ms₀ h w inv x i L t c k e l (Since S ms₀ h w inv x i L t (looks_first p c k) p) is live)
track {S} {ms₀} {h} {w} {x} {i} {L} inv t (looked_on p y e l valid at is live) n =
    tracked_slot S ms₀ h w inv x i L t (looks_on p) p (fetch y.container y.key e.stamp l) AnyName w.clouds valid (λ j apart. apart) (keeps_self AnyName w.clouds) tt
    (same_look S ms₀ h w inv x i L t y.container y.key e l (Since S ms₀ h w inv x i L t (looks_on p) p) is live)
track {S} {ms₀} {h} {w} {x} {i} {L} inv t (completed p j v y ms valid at long digest keeps) n =
    tracked_slot S ms₀ h w inv x i L t (completes p j v) p idle AnyName ms valid (λ j apart. apart) keeps tt tt
track {S} {ms₀} {h} {w} {x} {i} {L} inv t (ended p valid) n =
    tracked_slot S ms₀ h w inv x i L t (ends p) p idle AnyName w.clouds valid (λ j apart. apart) (keeps_self AnyName w.clouds) tt tt
track {S} {ms₀} {h} {w} {x} {i} {L} inv t (began_sweeping p c k e valid at is) n =
    tracked_slot S ms₀ h w inv x i L t nothing p (sweeping (record { container = c; key = k; stamp = e.stamp })) AnyName w.clouds valid (λ j apart. tt) (keeps_self AnyName w.clouds) tt tt
track {S} {ms₀} {h} {w} {x} {i} {L} inv t (swept_one p y ms valid at keeps) n =
    tracked_clouds S ms₀ h w inv x i L t (NotBelow y.container y.key y.stamp) ms keeps (sweep_elsewhere S ms₀ h w inv x i L t p y valid at)

pub track_run : {S : Setting} {ms₀ : List CloudMeaning} {h₀ : History} {u : State} {x : SavingValue} {i : ℕ} {h : History} {w : State}
    → Inv S ms₀ h₀ u → Track S x i (λ q. ⊥) u → (r : Run S h₀ u h w) → NoneIn (commits x.container x.key) r → Track S x i (λ q. SomeIn (looks q) r) w
track_run inv t start n = t
track_run {S} inv t (then {t = w} {u = z} r e step) n = track (goes_on inv r) (track_run inv t r n.1) (effect_of S w e z step) n.0
