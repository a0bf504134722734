-- Committed saves can be fetched.
use Rattle.std.proofs.Common.{◌≡◌, ℕ, zero, suc, ◌-◌, ◌<◌, ◌≤◌, Bool, true, false, cond, eqb, ltb, leb, ◌⊎◌, List, [], ◌∷◌, ◌++◌, length, get_or, take, drop, set, Some, None, Ok, Err, Option, Result, sym, refl, ap, ◌∙◌, subst, inl, inr, ⊎_elim, arith, length-take-le}
use Rattle.std.specs.Str.{bytes_eq}
use Rattle.std.proofs.lemmas.Bool.{and_parts, leb-true, eq-eqb, ne_eqb, cases_lt, le-leb, lt-leb, le-ltb, and_from}
use Rattle.bytemap.specs.Map.{find}
use Rattle.naming.specs.Stamps.{StampValue}
use Rattle.entry.specs.Entries.{LiveValue}
use Rattle.cloud.specs.Meaning.{CloudMeaning}
use Rattle.row.specs.Rows.{no_cloud}
use Rattle.directory.specs.Meaning.{DirectoryMeaning, address}
use Rattle.directory.specs.Calls.{entry_of}
use Rattle.protocol.specs.Slots.{SlotValue, SavingValue, FetchingValue, idle, saving, fetching, sweeping}
use Rattle.protocol.specs.State.{Setting, State, valid_party, slot_of, with_slot, with_directory}
use Rattle.protocol.specs.Grounds.{saved_entry}
use Rattle.history.specs.Deeds.{Deed, History, commits_save, latest, commits, asks, looks, runs}
use Rattle.naming.specs.Names.{name_of}
use Rattle.history.proofs.Effects.{Effect, quiet, asked, began_one, stored_one, committed_one, passed, deleted_one, looked, looked_on, completed, ended, began_sweeping, swept_one, save_name}
use Rattle.history.specs.Promises.{SomeIn, NoneIn, Run, start, then, AtMostUnsound, CanBeFetched}
use Rattle.history.proofs.Sets.{chosen_is, listed_differ, listed_count}
use Rattle.history.proofs.Kept.{entry_set, own, kept}
use Rattle.history.proofs.Always.{goes_on}
use Rattle.history.proofs.Stepped.{effect_of}
use Rattle.history.proofs.Serving.{Track, Same, same_none, track_run}
use Rattle.history.proofs.Invariant.{View, view, Holds, SavingOk, FetchingOk, SlotOk, Inv}
use mathlib.Core.List.Memᴰ
use mathlib.Core.List.{Memᴰ}
use lib.Seq.{drop-length}
use Rattle.refusal.specs.declared.Cause.TheVariants.{TooLong}
use Rattle.refusal.specs.declared.Refusal.{Refusal}
use Rattle.refusal.specs.declared.Refusal.TheVariants.{ValueMismatch}
use Rattle.bytemap.proofs.Find.{same_self}
use Rattle.cloud.specs.Outcomes.{Length, GetOutcome, get_answer, get_part, length_within, part_within, over}
use Rattle.entry.specs.Clouds.{lists, chosen, all_clouds, count}
use Rattle.protocol.specs.Calls.{try_cloud}
use Rattle.protocol.specs.Grounds.{first_ground}
use Rattle.protocol.specs.Events.{tried}
use Rattle.protocol.specs.Steps.{Step, Asks, Tries, fetching_of, try_answer, is_saved_value}

-- ---- party 0 is no party

valid_is_not_zero : (p : ℕ) → valid_party p ≡ true → eqb p 0 ≡ false
valid_is_not_zero p v = let low : 1 ≤ p = leb-true 1 p (and_parts (leb 1 p) (leb p 16) v).0 in ne_eqb p 0 (λ e. omega arith)

zero_rests : {S : Setting} {s : State} {D : Deed} {s' : State} (h : History) → Effect S s D s' → runs 0 D h ≡ None
zero_rests h quiet = refl
zero_rests h (asked ms keeps) = refl
zero_rests h (began_one p c k v valid at) = refl
zero_rests h (stored_one p i v x ms valid at known size digest keeps others holds) = refl
zero_rests h (committed_one p x d valid at enough low is) = refl
zero_rests h (passed p x valid at) = refl
zero_rests h (deleted_one p c k d valid at is) = refl
zero_rests h (looked p c k e l valid at is live) = rw (valid_is_not_zero p valid) refl
zero_rests h (looked_on p x e l valid at is live) = refl
zero_rests h (completed p i v x ms valid at long digest keeps) = rw (valid_is_not_zero p valid) refl
zero_rests h (ended p valid) = rw (valid_is_not_zero p valid) refl
zero_rests h (began_sweeping p c k e valid at is) = refl
zero_rests h (swept_one p x ms valid at keeps) = refl

pub zero_never_runs : {S : Setting} {h₀ : History} {s : State} {h : History} {t : State} → latest (runs 0) h₀ ≡ None → Run S h₀ s h t → latest (runs 0) h ≡ None
zero_never_runs n start = n
zero_never_runs {S} n (then {h = h} {t = t} {u = u} r e step) = rw (zero_rests h (effect_of S t e u step)) (zero_never_runs n r)

-- ---- a fetch that runs has its slot

is_fetching_slot : (S : Setting) (ms₀ : List CloudMeaning) (d : DirectoryMeaning) (ms : List CloudMeaning) (V : View) (p : ℕ) (y : SlotValue) → SlotOk S ms₀ d ms V p y → V.running ≡ Some true
    → (x : FetchingValue) × (y ≡ fetching x)
is_fetching_slot S ms₀ d ms V p idle o e = absurd (o e)
is_fetching_slot S ms₀ d ms V p (saving x) o e = absurd (o.resting e)
is_fetching_slot S ms₀ d ms V p (fetching x) o e = (x, refl)
is_fetching_slot S ms₀ d ms V p (sweeping x) o e = absurd (o.resting e)

past_the_end : (ys : List SlotValue) (j : ℕ) → length ys ≤ j → get_or ys j idle ≡ idle
past_the_end [] j l = refl
past_the_end (y ∷ ys) zero l = absurd (omega arith)
past_the_end (y ∷ ys) (suc j) l = past_the_end ys j (omega arith)

record Running (S : Setting) (ms₀ : List CloudMeaning) (h : History) (w : State) (q : ℕ) : Type 0 where
  index : ℕ
  party : q ≡ suc index
  valid : valid_party q ≡ true
  remembered : FetchingValue
  slot : get_or w.slots index idle ≡ fetching remembered
  ok : FetchingOk S ms₀ w.directory w.clouds (view q h) q remembered

running : (S : Setting) (ms₀ : List CloudMeaning) (h : History) (w : State) → Inv S ms₀ h w → (q : ℕ) → latest (runs 0) h ≡ None → latest (runs q) h ≡ Some true → Running S ms₀ h w q
running S ms₀ h w inv zero z e = let no' : None ≡ Some true = sym z ∙ e in absurd (grind arith)
running S ms₀ h w inv (suc j) z e =
    let (x, is) = is_fetching_slot S ms₀ w.directory w.clouds (view (suc j) h) (suc j) (get_or w.slots j idle) (inv.slots j) e in
    let in_range : j < 16 = ⊎_elim
    (λ (l : j < 16). l)
    (λ (l : 16 ≤ j). let no' : idle ≡ fetching x = sym (past_the_end w.slots j (subst (λ (n : ℕ). n ≤ j) (sym inv.sixteen) l)) ∙ is in absurd (grind arith))
    (cases_lt j 16) in
    record {
      index = j;
      party = refl;
      valid = and_from (leb 1 (suc j)) (leb (suc j) 16) (le-leb 1 (suc j) (omega arith)) (le-leb (suc j) 16 (omega arith));
      remembered = x;
      slot = is;
      ok = subst (λ (y : SlotValue). SlotOk S ms₀ w.directory w.clouds (view (suc j) h) (suc j) y) is (inv.slots j);
    }

-- ---- a try at a cloud that holds the value completes

-- no ground of refusal holds
no_ground : (S : Setting) (w : State) (q i : ℕ) (buffer : List ℕ) (y : FetchingValue) → valid_party q ≡ true → i < S.clouds → slot_of w q ≡ fetching y
    → lists y.live.clouds i ≡ true → y.live.size ≤ length buffer → first_ground S (try_cloud q i buffer) w ≡ None
no_ground S w q i buffer y valid known at listed room =
    let k : leb S.clouds i ≡ false = lt-leb S.clouds i known in
    let r : ltb (length buffer) y.live.size ≡ false = le-ltb (length buffer) y.live.size room in
    rw (valid, k, at, listed, r) refl

-- what a sound cloud that holds the value answers and writes
got_value : (S : Setting) (m m' : CloudMeaning) (name part part' : List ℕ) (said : Length) (v : List ℕ) → GetOutcome m name part said part' m' → m.sound ≡ true
    → find m.held name ≡ Some v → length v ≡ length part → (said ≡ Ok (length v)) × (part' ≡ v)
unfolding get_answer get_part
got_value S m m' name part part' said v o sound held long =
    let fits : leb (length v) (length part) ≡ true = le-leb (length v) (length part) (omega arith) in
    let all : drop (length v) part ≡ [] = ap (λ (n : ℕ). drop n part) long ∙ drop-length part in (
      o.answer sound ∙ ap (λ (x : Option (List ℕ)). length_within x (length part)) held ∙ ap (λ (b : Bool). cond b (Ok (length v)) (Err TooLong)) fits,
      o.written sound ∙ ap (λ (x : Option (List ℕ)). part_within x part) held ∙ ap (λ (b : Bool). cond b (over v part) part) fits ∙ ap (λ (x : List ℕ). v ++ x) all ∙ append_nil v,
    )
  where
    append_nil : (xs : List ℕ) → xs ++ [] ≡ xs
    append_nil [] = refl
    append_nil (a ∷ xs) = ap (λ (r : List ℕ). a ∷ r) (append_nil xs)

completes_there : (S : Setting) (w : State) (q i : ℕ) (buffer buffer' : List ℕ) (r : Result ℕ Refusal) (z : State) (y : FetchingValue)
    → i < length w.clouds → (get_or w.clouds i no_cloud).sound ≡ true → Holds S (get_or w.clouds i no_cloud) (name_of y.container y.key y.stamp) y.live.size y.live.digest
    → y.live.size ≤ length buffer → Tries S w q i y buffer buffer' r z → r ≡ Ok y.live.size
completes_there S w q i buffer buffer' r z y here sound holds room t =
    let size : ℕ = y.live.size in
    let part : List ℕ = take size buffer in
    let long : length part ≡ size = length-take-le size buffer room in
    let (says, writes) = got_value S (get_or w.clouds i no_cloud) (get_or z.clouds i no_cloud) (name_of y.container y.key y.stamp) part t.part t.said holds.value (t.cloud.here here) sound holds.held (holds.long ∙ sym long) in
    let counts : eqb (length holds.value) size ≡ true = eq-eqb (length holds.value) size holds.long in
    let digests : bytes_eq y.live.digest (S.digested holds.value) ≡ true = ap (λ (b : List ℕ). bytes_eq y.live.digest b) (sym holds.same) ∙ same_self y.live.digest in
    let matches : is_saved_value S y.live (length holds.value) holds.value ≡ true = and_from (eqb (length holds.value) size) (bytes_eq y.live.digest (S.digested holds.value)) counts digests in
    t.answers ∙ ap (λ (s : Length). try_answer S y i s t.part) says ∙ ap (λ (b : List ℕ). try_answer S y i (Ok (length holds.value)) b) writes
    ∙ ap (λ (b : Bool). cond b (Ok size) (Err ValueMismatch)) matches

-- ---- among more than f listed clouds one was sound at opening

one_sound : (ms : List CloudMeaning) (is : List ℕ) → ((i : ℕ) × Memᴰ i is × ((get_or ms i no_cloud).sound ≡ true)) ⊎ ((i : ℕ) → Memᴰ i is → (get_or ms i no_cloud).sound ≡ false)
one_sound ms [] = inr (λ i m. elim m [ ])
one_sound ms (j ∷ is) = by (get_or ms j no_cloud).sound refl (one_sound ms is) where
  by : (b : Bool) → (get_or ms j no_cloud).sound ≡ b
      → ((i : ℕ) × Memᴰ i is × ((get_or ms i no_cloud).sound ≡ true)) ⊎ ((i : ℕ) → Memᴰ i is → (get_or ms i no_cloud).sound ≡ false)
      → ((i : ℕ) × Memᴰ i (j ∷ is) × ((get_or ms i no_cloud).sound ≡ true)) ⊎ ((i : ℕ) → Memᴰ i (j ∷ is) → (get_or ms i no_cloud).sound ≡ false)
  by true e rest = inl (j, Memᴰ.head refl, e)
  by false e (inl x) = inl (x.0, Memᴰ.tail x.1, x.2)
  by false e (inr all) = inr (λ i m. ⊎_elim (λ (same : i ≡ j). ap (λ (n : ℕ). (get_or ms n no_cloud).sound) same ∙ e) (λ (r : Memᴰ i is). all i r) (Memᴰ.cases_cons m))

sound_listed : (ms : List CloudMeaning) (f set : ℕ) → AtMostUnsound f ms → f < count set → ((i : ℕ) → lists set i ≡ true → i < length ms)
    → (i : ℕ) × (lists set i ≡ true) × ((get_or ms i no_cloud).sound ≡ true)
sound_listed ms f set few enough known = ⊎_elim
    (λ (x : (i : ℕ) × Memᴰ i (chosen set all_clouds) × ((get_or ms i no_cloud).sound ≡ true)). (x.0, (chosen_is set all_clouds x.0 x.1).0, x.2))
    (λ (all : (i : ℕ) → Memᴰ i (chosen set all_clouds) → (get_or ms i no_cloud).sound ≡ false).
    let le : length (chosen set all_clouds) ≤ f = few (chosen set all_clouds) (listed_differ set) (λ i m. (known i (chosen_is set all_clouds i m).0, all i m)) in
    let c : length (chosen set all_clouds) ≡ count set = listed_count set in
    absurd (omega arith))
    (one_sound ms (chosen set all_clouds))

-- ---- the promise

module _ (S : Setting) (ms₀ : List CloudMeaning) (h₀ : History) (u : State) (inv₀ : Inv S ms₀ h₀ u) (zero_rests₀ : latest (runs 0) h₀ ≡ None) (x : SavingValue) (i : ℕ) (listed : lists x.stored i ≡ true) (known : i < S.clouds) (track₀ : Track S x i (λ q. ⊥) u) where
  serves : (l : History) (w : State) (later : Run S h₀ u l w) → NoneIn (commits x.container x.key) later
      → (q : ℕ) → SomeIn (looks q) later → latest (asks q) l ≡ Some (x.container, x.key) → latest (runs q) l ≡ Some true
      → (buffer buffer' : List ℕ) (r : Result ℕ Refusal) (z : State) → x.size ≤ length buffer
      → Step S w (tried q i buffer buffer' r) z → r ≡ Ok x.size
  serves l w later none q looked_since asked_for runs_now buffer buffer' r z room step =
      let inv : Inv S ms₀ l w = goes_on inv₀ later in
      let t : Track S x i (λ q. SomeIn (looks q) later) w = track_run inv₀ track₀ later none in
      let run = running S ms₀ l w inv q (zero_never_runs zero_rests₀ later) runs_now in
      let y : FetchingValue = run.remembered in
      let keys : Some (y.container, y.key) ≡ Some (x.container, x.key) = sym run.ok.key_asked ∙ asked_for in
      let pair : ◌≡◌ {A = ℕ × List ℕ} (y.container, y.key) (x.container, x.key) = cc keys in
      let same : Same x (SomeIn (looks (suc run.index)) later) (fetching y) = subst (λ (s : SlotValue). Same x (SomeIn (looks (suc run.index)) later) s) run.slot (t.fetches run.index) in
      let since : SomeIn (looks (suc run.index)) later = subst (λ (p : ℕ). SomeIn (looks p) later) run.party looked_since in
      let ec : y.container ≡ x.container = ap (λ (a : ℕ × List ℕ). a.0) pair in
      let ek : y.key ≡ x.key = ap (λ (a : ℕ × List ℕ). a.1) pair in
      let (stamps, lives) = same since ec ek in
      let size : y.live.size ≡ x.size = ap (λ (v : LiveValue). v.size) lives in
      let pred : q - 1 ≡ run.index = ap (λ (p : ℕ). p - 1) run.party ∙ minus_one run.index in
      let at : slot_of w q ≡ fetching y = ap (λ (n : ℕ). get_or w.slots n idle) pred ∙ run.slot in
      let on_list : lists y.live.clouds i ≡ true = ap (λ (v : LiveValue). lists v.clouds i) lives ∙ listed in
      let enough : y.live.size ≤ length buffer = subst (λ (n : ℕ). n ≤ length buffer) (sym size) room in
      let open_to : first_ground S (try_cloud q i buffer) w ≡ None = no_ground S w q i buffer y run.valid known at on_list enough in
      let tries : Tries S w q i (fetching_of (slot_of w q)) buffer buffer' r z = subst (λ g. Asks g (Tries S w q i (fetching_of (slot_of w q)) buffer buffer' r z) w r z) open_to step.0 in
      let tries_y : Tries S w q i y buffer buffer' r z = subst (λ (s : SlotValue). Tries S w q i (fetching_of s) buffer buffer' r z) at tries in
      let name : save_name x ≡ name_of y.container y.key y.stamp = sym (ap (λ (c : ℕ). name_of c y.key y.stamp) ec ∙ ap (λ (k : List ℕ). name_of x.container k y.stamp) ek ∙ ap (λ (v : StampValue). name_of x.container x.key v) stamps) in
      let o = t.holds in
      let holds : Holds S (get_or w.clouds i no_cloud) (name_of y.container y.key y.stamp) y.live.size y.live.digest = record {
        value = o.value;
        held = ap (λ (n : List ℕ). find (get_or w.clouds i no_cloud).held n) (sym name) ∙ o.held;
        long = o.long ∙ sym size;
        same = ap (λ (v : LiveValue). v.digest) lives ∙ o.same;
      } in
      completes_there S w q i buffer buffer' r z y (subst (λ (n : ℕ). i < n) inv.counted known) t.sound holds enough tries_y ∙ ap (λ (n : ℕ). Ok n) size
    where
      minus_one : (n : ℕ) → suc n - 1 ≡ n
      minus_one n = omega arith

pub committed_serves : (S : Setting) (ms₀ : List CloudMeaning) (h : History) (t : State) → Inv S ms₀ h t → latest (runs 0) h ≡ None → S.clouds ≡ length ms₀ → AtMostUnsound S.faults ms₀
    → (p : ℕ) (u : State) → Effect S t (commits_save p) u → CanBeFetched S h p u
committed_serves S ms₀ h t inv rests counted₀ few p u (committed_one q x d valid at enough low is) =
    let o : SavingOk S ms₀ t.directory t.clouds (view p h) p x = own S ms₀ h t inv p valid (saving x) at in
    let same_count : length t.clouds ≡ length ms₀ = sym inv.counted ∙ counted₀ in
    let (i, on_list, sound₀) = sound_listed ms₀ S.faults x.stored few enough (λ i l. subst (λ (n : ℕ). i < n) same_count (o.clouds i l).known) in
    let c = o.clouds i on_list in
    let stands : entry_of d x.container x.key ≡ Some (saved_entry x) =
    entry_set t.directory d x.container x.key (saved_entry x) is x.container x.key
    ∙ ap (λ (b : Bool). cond b (Some (saved_entry x)) (entry_of t.directory x.container x.key)) (same_self (address x.container x.key)) in
    let after : Inv S ms₀ (commits_save p ∷ h) (with_slot (with_directory t d) p idle) = kept inv (committed_one p x d valid at enough low is) in
    let tracked : Track S x i (λ q. ⊥) (with_slot (with_directory t d) p idle) = record {
      stands = stands;
      sound = inv.sounds i sound₀;
      holds = c.holds low sound₀;
      fetches = λ j. same_none x (get_or (set t.slots (p - 1) idle) j idle);
    } in
    let known : i < S.clouds = subst (λ (n : ℕ). i < n) (sym inv.counted) c.known in
    record {
      container = x.container;
      key = x.key;
      value = o.value;
      begun = o.begun_with;
      cloud = i;
      listed_cloud = c.told;
      serves = λ l w later none q since asked_for runs_now buffer buffer' r z room step.
          serves S ms₀ (commits_save p ∷ h) (with_slot (with_directory t d) p idle) after rests x i on_list known tracked
          l w later none q since asked_for runs_now buffer buffer' r z (subst (λ (n : ℕ). n ≤ length buffer) (sym o.size) room) step
          ∙ ap (λ (n : ℕ). Ok n) o.size;
    }
