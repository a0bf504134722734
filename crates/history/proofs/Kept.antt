-- Every effect keeps the invariant.
use Rattle.std.proofs.Common.{◌≡◌, ℕ, suc, ◌-◌, ◌<◌, ◌≤◌, Bool, true, false, cond, eqb, leb, List, ◌∷◌, length, get_or, set, Some, None, Option, sym, refl, ap, ◌∙◌, subst, inl, inr, ⊎_elim, arith, length-set, get_or-set_other, get_or-set_same}
use native.Mathlib.Decide.{ℕ_discrete}
use Rattle.std.proofs.lemmas.Bool.{cases_Bool, and_parts, leb-true, eq-eqb, ne_eqb, eqb-true, eqb-false, both_ways}
use Rattle.bytemap.specs.Map.{find, insert, Ascending}
use Rattle.bytemap.proofs.Find.{find_insert, same_is, ascending_insert}
use Rattle.naming.specs.Stamps.{StampValue, stamp_below}
use Rattle.naming.proofs.Stamps.{stamp_below_irreflexive, stamp_below_transitive, below_next_stamp}
use Rattle.entry.specs.Entries.{EntryValue, LiveValue}
use Rattle.entry.specs.Clouds.{lists}
use Rattle.cloud.specs.Meaning.{CloudMeaning}
use Rattle.row.specs.Rows.{no_cloud}
use Rattle.directory.specs.Meaning.{DirectoryMeaning, address}
use Rattle.directory.specs.Calls.{entry_of, stamp_of}
use Rattle.protocol.specs.Slots.{SlotValue, SavingValue, FetchingValue, SweepingValue, idle, saving, fetching, sweeping}
use Rattle.protocol.specs.State.{Setting, State, valid_party, slot_of, with_slot, with_clouds, with_directory}
use Rattle.protocol.specs.Grounds.{saved_entry}
use Rattle.protocol.specs.Steps.{begun, acknowledged, new_stamp, deleted_entry}
use Rattle.history.specs.Deeds.{Deed, History, nothing, began, stores, commits_save, deletes, looks_first, looks_on, completes, ends, latest, or_else, when, Change, saved, erased, same_key, saved_at, commits, stored_at, runs}
use Rattle.naming.proofs.Names.{names_are_distinct}
use Rattle.history.proofs.Clouds.{keeps_self, Keeps, AnyName, OtherThan, NotBelow}
use Rattle.history.proofs.Sets.{with_cloud_is, none_listed}
use Rattle.history.proofs.Effects.{Effect, quiet, asked, began_one, stored_one, committed_one, passed, deleted_one, looked, looked_on, completed, ended, began_sweeping, swept_one, fetch, save_name}
use Rattle.history.proofs.Invariant.{Fits, EntryOk, View, view, NotBy, same_view, Holds, SavingOk, FetchingOk, SweepingOk, SlotOk, Inv, Rises, KeepsName, slot_on}

pub eqb_self : (p : ℕ) → eqb p p ≡ true
eqb_self p = eq-eqb p p refl

not_running : Some false ≡ Some true → ⊥
not_running e = grind arith

index : (p : ℕ) → valid_party p ≡ true → (p - 1 < 16) × (suc (p - 1) ≡ p)
index p v =
    let both = and_parts (leb 1 p) (leb p 16) v in
    let low : 1 ≤ p = leb-true 1 p both.0 in
    let high : p ≤ 16 = leb-true p 16 both.1 in
    (omega arith, omega arith)

-- entries of a directory with one entry more
pub entry_set : (d d' : DirectoryMeaning) (c : ℕ) (k : List ℕ) (e : EntryValue) → d'.entries ≡ insert d.entries (address c k) e
    → (c' : ℕ) (k' : List ℕ) → entry_of d' c' k' ≡ cond (same_key c k c' k') (Some e) (entry_of d c' k')
entry_set d d' c k e is c' k' = ap (λ m. find m (address c' k')) is ∙ find_insert d.entries (address c k) e (address c' k')

rises_set : (p q : ℕ) (d d' : DirectoryMeaning) (c : ℕ) (k : List ℕ) (e : EntryValue) → d'.entries ≡ insert d.entries (address c k) e
    → stamp_below (stamp_of (entry_of d c k)) e.stamp ≡ true → e.stamp.writer ≡ q → eqb q p ≡ false → Rises p d d'
rises_set p q d d' c k e is low writer other c' k' = ⊎_elim
    (λ (b : same_key c k c' k' ≡ true).
    let now_is : entry_of d' c' k' ≡ Some e = entry_set d d' c k e is c' k' ∙ ap (λ (t : Bool). cond t (Some e) (entry_of d c' k')) b in
    let at : stamp_of (entry_of d' c' k') ≡ e.stamp = ap (λ (o : Option EntryValue). stamp_of o) now_is in
    let key : address c k ≡ address c' k' = same_is (address c k) (address c' k') b in
    let was : stamp_of (entry_of d c k) ≡ stamp_of (entry_of d c' k') = ap (λ (a : List ℕ). stamp_of (find d.entries a)) key in
    inr (
      ap (λ (t : StampValue). stamp_below t (stamp_of (entry_of d' c' k'))) (sym was) ∙ ap (λ (t : StampValue). stamp_below (stamp_of (entry_of d c k)) t) at ∙ low,
      λ w. eqb-false q p other (sym writer ∙ ap (λ (t : StampValue). t.writer) (sym at) ∙ w),
    ))
    (λ (b : same_key c k c' k' ≡ false).
    inl (ap (λ (o : Option EntryValue). stamp_of o) (entry_set d d' c k e is c' k' ∙ ap (λ (t : Bool). cond t (Some e) (entry_of d c' k')) b)))
    (cases_Bool (same_key c k c' k'))

module _ (S : Setting) (ms₀ : List CloudMeaning) (h : History) (s : State) (inv : Inv S ms₀ h s) where
  d₀ : DirectoryMeaning
  d₀ = s.directory

  -- what holds of the slot of a party that calls
  pub own : (p : ℕ) → valid_party p ≡ true → (y : SlotValue) → slot_of s p ≡ y → SlotOk S ms₀ s.directory s.clouds (view p h) p y
  own p v y e = subst (λ (z : SlotValue). SlotOk S ms₀ s.directory s.clouds (view p h) p z) e
      (subst (λ (q : ℕ). SlotOk S ms₀ s.directory s.clouds (view q h) q (get_or s.slots (p - 1) idle)) (index p v).1 (inv.slots (p - 1)))

  -- one slot is replaced
  pub set_slots : (Ok : ℕ → SlotValue → Type 0) (p : ℕ) (y : SlotValue) → valid_party p ≡ true → Ok p y → ((j : ℕ) → eqb p (suc j) ≡ false → Ok (suc j) (get_or s.slots j idle))
      → (j : ℕ) → Ok (suc j) (get_or (set s.slots (p - 1) y) j idle)
  set_slots Ok p y v mine others j = elim (ℕ_discrete j (p - 1)) [
    | yes e ↦
        (let in_range : p - 1 < length s.slots = subst (λ (n : ℕ). p - 1 < n) (sym inv.sixteen) (index p v).0 in
        let now_is : get_or (set s.slots (p - 1) y) j idle ≡ y = ap (λ (n : ℕ). get_or (set s.slots (p - 1) y) n idle) e ∙ get_or-set_same s.slots (p - 1) y idle in_range in
        let who : p ≡ suc j = sym (index p v).1 ∙ ap suc (sym e) in
        subst (λ (z : SlotValue). Ok (suc j) z) (sym now_is) (subst (λ (q : ℕ). Ok q y) who mine))
    | no n ↦
        (let apart : eqb p (suc j) ≡ false = ne_eqb p (suc j) (λ e. n (sym (pred_of (ap (λ (q : ℕ). q - 1) e)))) in
        subst (λ (z : SlotValue). Ok (suc j) z) (sym (get_or-set_other s.slots (p - 1) j y idle n)) (others j apart))
  ]
    where
      pred_of : p - 1 ≡ suc j - 1 → p - 1 ≡ j
      pred_of e = let z : suc j - 1 ≡ j = omega arith in e ∙ z

  -- a slot that the deed does not concern
  other_slot : (D : Deed) (d' : DirectoryMeaning) (ms' : List CloudMeaning) (j : ℕ) → NotBy (suc j) D → Rises (suc j) s.directory d' → length ms' ≡ length s.clouds
      → ((x : SavingValue) → get_or s.slots j idle ≡ saving x → x.stamp.writer ≡ suc j → stamp_below (stamp_of (entry_of s.directory x.container x.key)) x.stamp ≡ true → KeepsName (save_name x) s.clouds ms')
      → SlotOk S ms₀ d' ms' (view (suc j) (D ∷ h)) (suc j) (get_or s.slots j idle)
  other_slot D d' ms' j nb rises len keeps =
      subst (λ (V : View). SlotOk S ms₀ d' ms' V (suc j) (get_or s.slots j idle)) (sym (same_view (suc j) D h nb))
      (slot_on S ms₀ s.directory d' s.clouds ms' (view (suc j) h) (suc j) rises len inv.sounds (get_or s.slots j idle) keeps (inv.slots j))

  still_rises : (p : ℕ) → Rises p s.directory s.directory
  still_rises p c k = inl refl

  still_keeps : (n : List ℕ) → KeepsName n s.clouds s.clouds
  still_keeps n i t = refl

  any_keeps : (ms : List CloudMeaning) → Keeps AnyName s.clouds ms → (n : List ℕ) → KeepsName n s.clouds ms
  any_keeps ms k n i t = (k.each i).keeps t n tt

  sounds_on : (P : List ℕ → Type 0) (ms : List CloudMeaning) → Keeps P s.clouds ms → (i : ℕ) → (get_or ms₀ i no_cloud).sound ≡ true → (get_or ms i no_cloud).sound ≡ true
  sounds_on P ms k i t = (k.each i).stays (inv.sounds i t)

  -- only the slot of p changes, and clouds keep every name
  only_slot : (D : Deed) (p : ℕ) (y : SlotValue) (ms : List CloudMeaning) → valid_party p ≡ true → ((j : ℕ) → eqb p (suc j) ≡ false → NotBy (suc j) D)
      → ((c : ℕ) (k : List ℕ) → commits c k D h ≡ None) → Keeps AnyName s.clouds ms
      → SlotOk S ms₀ s.directory ms (view p (D ∷ h)) p y → Inv S ms₀ (D ∷ h) (with_slot (with_clouds s ms) p y)
  only_slot D p y ms v nb nc keeps mine = record {
    sixteen = length-set s.slots (p - 1) y ∙ inv.sixteen;
    slots = set_slots (λ q z. SlotOk S ms₀ s.directory ms (view q (D ∷ h)) q z) p y v mine
        (λ j apart. other_slot D s.directory ms j (nb j apart) (still_rises (suc j)) keeps.same_length (λ x _ _ _. any_keeps ms keeps (save_name x)));
    entries = λ c k. subst (λ (o : Option Change). EntryOk S (entry_of s.directory c k) (or_else o (latest (commits c k) h))) (sym (nc c k)) (inv.entries c k);
    ascending = inv.ascending;
    counted = inv.counted ∙ sym keeps.same_length;
    sounds = sounds_on AnyName ms keeps;
  }

  self_keeps : Keeps AnyName s.clouds s.clouds
  self_keeps = keeps_self AnyName s.clouds

  -- clouds change, and nothing else
  only_clouds : (P : List ℕ → Type 0) (ms : List CloudMeaning) → Keeps P s.clouds ms
      → ((j : ℕ) (x : SavingValue) → get_or s.slots j idle ≡ saving x → stamp_below (stamp_of (entry_of s.directory x.container x.key)) x.stamp ≡ true → P (save_name x))
      → Inv S ms₀ (nothing ∷ h) (with_clouds s ms)
  only_clouds P ms keeps named = record {
    sixteen = inv.sixteen;
    slots = λ j. other_slot nothing s.directory ms j tt (still_rises (suc j)) keeps.same_length (λ x is writer low i t. (keeps.each i).keeps t (save_name x) (named j x is low));
    entries = inv.entries;
    ascending = inv.ascending;
    counted = inv.counted ∙ sym keeps.same_length;
    sounds = sounds_on P ms keeps;
  }

  -- a save that begins
  began_ok : (p c : ℕ) (k v : List ℕ) → valid_party p ≡ true → slot_of s p ≡ idle
      → SavingOk S ms₀ s.directory s.clouds (view p (began p c k v ∷ h)) p (begun S s p c k v)
  began_ok p c k v valid at =
      let old : StampValue = stamp_of (entry_of s.directory c k) in
      record {
        resting = own p valid idle at;
        value = v;
        begun_with = rw (eqb_self p) refl;
        size = refl;
        digest = refl;
        writer = refl;
        other = λ e. let low : stamp_below old old ≡ true = ap (λ (t : StampValue). stamp_below old t) e ∙ below_next_stamp old p in
            both_ways (stamp_below old old) (stamp_below_irreflexive old) low;
        clouds = λ i l. absurd (none_listed i l);
      }

  -- a store that is acknowledged
  stored_ok : (p i : ℕ) (v : List ℕ) (x : SavingValue) (ms : List CloudMeaning) → valid_party p ≡ true → slot_of s p ≡ saving x → i < S.clouds
      → x.size ≡ length v → x.digest ≡ S.digested v → Keeps (OtherThan (save_name x)) s.clouds ms
      → ((j : ℕ) → (j ≡ i → ⊥) → get_or ms j no_cloud ≡ get_or s.clouds j no_cloud)
      → (i < length s.clouds → (get_or s.clouds i no_cloud).sound ≡ true → find (get_or ms i no_cloud).held (save_name x) ≡ Some v)
      → SavingOk S ms₀ s.directory ms (view p (stores p i v ∷ h)) p (acknowledged x i)
  stored_ok p i v x ms valid at known size digest keeps others holds =
      let o : SavingOk S ms₀ s.directory s.clouds (view p h) p x = own p valid (saving x) at in
      let here : i < length s.clouds = subst (λ (n : ℕ). i < n) inv.counted known in
      record {
        resting = o.resting;
        value = o.value;
        begun_with = o.begun_with;
        size = o.size;
        digest = o.digest;
        writer = o.writer;
        other = o.other;
        clouds = λ j l. ⊎_elim
            (λ (e : j ≡ i). record {
              told = ap (λ (n : ℕ). latest (stored_at p n) (stores p i v ∷ h)) e ∙ rw (eqb_self p, eqb_self i) refl;
              known = subst (λ (n : ℕ). j < n) (sym keeps.same_length) (subst (λ (n : ℕ). n < length s.clouds) (sym e) here);
              holds = λ low sound₀.
                  let sound : (get_or s.clouds i no_cloud).sound ≡ true = inv.sounds i (ap (λ (n : ℕ). (get_or ms₀ n no_cloud).sound) (sym e) ∙ sound₀) in
                  let m : Holds S (get_or ms i no_cloud) (save_name x) x.size x.digest = record { value = v; held = holds here sound; long = sym size; same = digest } in
                  subst (λ (n : ℕ). Holds S (get_or ms n no_cloud) (save_name x) x.size x.digest) (sym e) m;
            })
            (λ (r : (j ≡ i → ⊥) × (lists x.stored j ≡ true)).
            let c = o.clouds j r.1 in
            record {
              told = rw (eqb_self p, ne_eqb i j (λ e. r.0 (sym e))) c.told;
              known = subst (λ (n : ℕ). j < n) (sym keeps.same_length) c.known;
              holds = λ low sound₀. subst (λ (m : CloudMeaning). Holds S m (save_name x) x.size x.digest) (sym (others j r.0)) (c.holds low sound₀);
            })
            (with_cloud_is x.stored i j l);
      }

  -- another party's save has another name
  other_name : (p : ℕ) (x y : SavingValue) (j : ℕ) → eqb p (suc j) ≡ false → x.stamp.writer ≡ p → y.stamp.writer ≡ suc j → save_name x ≡ save_name y → ⊥
  other_name p x y j apart wx wy e =
      let same = names_are_distinct x.container y.container x.key y.key x.stamp y.stamp e in
      eqb-false p (suc j) apart (sym wx ∙ ap (λ (t : StampValue). t.writer) same.2 ∙ wy)

  store_kept : (p i : ℕ) (v : List ℕ) (x : SavingValue) (ms : List CloudMeaning) → valid_party p ≡ true → slot_of s p ≡ saving x
      → Keeps (OtherThan (save_name x)) s.clouds ms
      → SavingOk S ms₀ s.directory ms (view p (stores p i v ∷ h)) p (acknowledged x i)
      → Inv S ms₀ (stores p i v ∷ h) (with_slot (with_clouds s ms) p (saving (acknowledged x i)))
  store_kept p i v x ms valid at keeps mine =
      let o : SavingOk S ms₀ s.directory s.clouds (view p h) p x = own p valid (saving x) at in
      record {
        sixteen = length-set s.slots (p - 1) (saving (acknowledged x i)) ∙ inv.sixteen;
        slots = set_slots (λ q z. SlotOk S ms₀ s.directory ms (view q (stores p i v ∷ h)) q z) p (saving (acknowledged x i)) valid mine
            (λ j apart. other_slot (stores p i v) s.directory ms j apart (still_rises (suc j)) keeps.same_length
            (λ y is writer low n t. (keeps.each n).keeps t (save_name y) (other_name p x y j apart o.writer writer)));
        entries = inv.entries;
        ascending = inv.ascending;
        counted = inv.counted ∙ sym keeps.same_length;
        sounds = sounds_on (OtherThan (save_name x)) ms keeps;
      }

  -- a commit: one entry is set
  set_entries_ok : (c : ℕ) (k : List ℕ) (e : EntryValue) (d' : DirectoryMeaning) (ch : Change) (D : Deed) → d'.entries ≡ insert s.directory.entries (address c k) e
      → EntryOk S (Some e) (Some ch) → ((c' : ℕ) (k' : List ℕ) → commits c' k' D h ≡ when (same_key c k c' k') ch)
      → (c' : ℕ) (k' : List ℕ) → EntryOk S (entry_of d' c' k') (latest (commits c' k') (D ∷ h))
  set_entries_ok c k e d' ch D is fits says c' k' =
      let left : entry_of d' c' k' ≡ cond (same_key c k c' k') (Some e) (entry_of s.directory c' k') = entry_set s.directory d' c k e is c' k' in
      subst (λ (o : Option EntryValue). EntryOk S o (latest (commits c' k') (D ∷ h))) (sym left)
      (subst (λ (o : Option Change). EntryOk S (cond (same_key c k c' k') (Some e) (entry_of s.directory c' k')) (or_else o (latest (commits c' k') h))) (sym (says c' k'))
      (⊎_elim
      (λ (b : same_key c k c' k' ≡ true). rw b fits)
      (λ (b : same_key c k c' k' ≡ false). rw b (inv.entries c' k'))
      (cases_Bool (same_key c k c' k'))))

  commit_kept : (p : ℕ) (x : SavingValue) (d' : DirectoryMeaning) → valid_party p ≡ true → slot_of s p ≡ saving x
      → stamp_below (stamp_of (entry_of s.directory x.container x.key)) x.stamp ≡ true
      → d'.entries ≡ insert s.directory.entries (address x.container x.key) (saved_entry x)
      → Inv S ms₀ (commits_save p ∷ h) (with_slot (with_directory s d') p idle)
  commit_kept p x d' valid at low is =
      let o : SavingOk S ms₀ s.directory s.clouds (view p h) p x = own p valid (saving x) at in
      record {
        sixteen = length-set s.slots (p - 1) idle ∙ inv.sixteen;
        slots = set_slots (λ q z. SlotOk S ms₀ d' s.clouds (view q (commits_save p ∷ h)) q z) p idle valid o.resting
            (λ j apart. other_slot (commits_save p) d' s.clouds j apart
            (rises_set (suc j) p s.directory d' x.container x.key (saved_entry x) is low o.writer apart) refl (λ y _ _ _. still_keeps (save_name y)));
        entries = set_entries_ok x.container x.key (saved_entry x) d' (saved o.value) (commits_save p) is (o.size, o.digest)
            (λ c k. ap (λ (b : Option (ℕ × List ℕ × List ℕ)). saved_at c k b) o.begun_with);
        ascending = subst (λ m. Ascending m) (sym is) (ascending_insert s.directory.entries (address x.container x.key) (saved_entry x) inv.ascending);
        counted = inv.counted;
        sounds = inv.sounds;
      }

  delete_kept : (p c : ℕ) (k : List ℕ) (d' : DirectoryMeaning) → valid_party p ≡ true → slot_of s p ≡ idle
      → d'.entries ≡ insert s.directory.entries (address c k) (deleted_entry (new_stamp s p c k)) → Inv S ms₀ (deletes p c k ∷ h) (with_directory s d')
  delete_kept p c k d' valid at is = record {
    sixteen = inv.sixteen;
    slots = λ j. ⊎_elim
        (λ (b : eqb p (suc j) ≡ true). mine j (eqb-true p (suc j) b))
        (λ (apart : eqb p (suc j) ≡ false). other_slot (deletes p c k) d' s.clouds j apart
        (rises_set (suc j) p s.directory d' c k (deleted_entry (new_stamp s p c k)) is (below_next_stamp (stamp_of (entry_of s.directory c k)) p) refl apart) refl (λ y _ _ _. still_keeps (save_name y)))
        (cases_Bool (eqb p (suc j)));
    entries = set_entries_ok c k (deleted_entry (new_stamp s p c k)) d' erased (deletes p c k) is refl (λ c' k'. refl);
    ascending = subst (λ m. Ascending m) (sym is) (ascending_insert s.directory.entries (address c k) (deleted_entry (new_stamp s p c k)) inv.ascending);
    counted = inv.counted;
    sounds = inv.sounds;
  }
    where
      mine : (j : ℕ) → p ≡ suc j → SlotOk S ms₀ d' s.clouds (view (suc j) (deletes p c k ∷ h)) (suc j) (get_or s.slots j idle)
      mine j e =
          let z : suc j - 1 ≡ j = omega arith in
          let idles : get_or s.slots j idle ≡ idle = ap (λ (n : ℕ). get_or s.slots n idle) (sym (ap (λ (q : ℕ). q - 1) e ∙ z)) ∙ at in
          let resting : latest (runs (suc j)) h ≡ Some true → ⊥ = subst (λ (q : ℕ). latest (runs q) h ≡ Some true → ⊥) e (own p valid idle at) in
          subst (λ (y : SlotValue). SlotOk S ms₀ d' s.clouds (view (suc j) (deletes p c k ∷ h)) (suc j) y) (sym idles) resting

  -- an entry with a value is that of a save
  was_saved : (c : ℕ) (k : List ℕ) (e : EntryValue) (l : LiveValue) → entry_of s.directory c k ≡ Some e → e.live ≡ Some l
      → (v : List ℕ) × (latest (commits c k) h ≡ Some (saved v)) × (l.size ≡ length v) × (l.digest ≡ S.digested v)
  was_saved c k e l is live =
      by (latest (commits c k) h) refl (subst (λ (o : Option EntryValue). EntryOk S o (latest (commits c k) h)) is (inv.entries c k)) where
        by : (ch : Option Change) → latest (commits c k) h ≡ ch → EntryOk S (Some e) ch → (v : List ℕ) × (latest (commits c k) h ≡ Some (saved v)) × (l.size ≡ length v) × (l.digest ≡ S.digested v)
        by None at o = absurd o
        by (Some erased) at o = let none : Some l ≡ None = sym live ∙ o in absurd (grind arith)
        by (Some (saved v)) at o = let fits : Fits S (Some l) v = subst (λ (y : Option LiveValue). Fits S y v) live o in (v, at, fits.0, fits.1)

  looked_ok : (p c : ℕ) (k : List ℕ) (e : EntryValue) (l : LiveValue) → entry_of s.directory c k ≡ Some e → e.live ≡ Some l
      → FetchingOk S ms₀ s.directory s.clouds (view p (looks_first p c k ∷ h)) p (record { container = c; key = k; stamp = e.stamp; live = l })
  looked_ok p c k e l is live =
      let (v, saved_then, size, digest) = was_saved c k e l is live in
      record { going = rw (eqb_self p) refl; key_asked = rw (eqb_self p) refl; before = h; last_look = rw (eqb_self p) refl; value = v; was_saved = saved_then; size = size; digest = digest }

  looked_on_ok : (p : ℕ) (x : FetchingValue) (e : EntryValue) (l : LiveValue) → valid_party p ≡ true → slot_of s p ≡ fetching x
      → entry_of s.directory x.container x.key ≡ Some e → e.live ≡ Some l
      → FetchingOk S ms₀ s.directory s.clouds (view p (looks_on p ∷ h)) p (record { container = x.container; key = x.key; stamp = e.stamp; live = l })
  looked_on_ok p x e l valid at is live =
      let o : FetchingOk S ms₀ s.directory s.clouds (view p h) p x = own p valid (fetching x) at in
      let (v, saved_then, size, digest) = was_saved x.container x.key e l is live in
      record { going = o.going; key_asked = o.key_asked; before = h; last_look = rw (eqb_self p) refl; value = v; was_saved = saved_then; size = size; digest = digest }

  -- a sweep keeps the names of saves that are under way
  swept_name : (p : ℕ) (x : SweepingValue) → valid_party p ≡ true → slot_of s p ≡ sweeping x
      → (y : SavingValue) → stamp_below (stamp_of (entry_of s.directory y.container y.key)) y.stamp ≡ true → NotBelow x.container x.key x.stamp (save_name y)
  swept_name p x valid at y low t e below_x =
      let o : SweepingOk S ms₀ s.directory s.clouds (view p h) p x = own p valid (sweeping x) at in
      let (ec, ek, et) = names_are_distinct y.container x.container y.key x.key y.stamp t e in
      let entry_low : stamp_below (stamp_of (entry_of s.directory x.container x.key)) t ≡ true =
      subst (λ (c : ℕ). stamp_below (stamp_of (entry_of s.directory c x.key)) t ≡ true) ec
      (subst (λ (k : List ℕ). stamp_below (stamp_of (entry_of s.directory y.container k)) t ≡ true) ek
      (subst (λ (u : StampValue). stamp_below (stamp_of (entry_of s.directory y.container y.key)) u ≡ true) et low)) in
      both_ways (stamp_below (stamp_of (entry_of s.directory x.container x.key)) x.stamp) o.low
      (stamp_below_transitive (stamp_of (entry_of s.directory x.container x.key)) t x.stamp entry_low below_x)

pub kept : {S : Setting} {ms₀ : List CloudMeaning} {h : History} {s : State} {D : Deed} {s' : State} → Inv S ms₀ h s → Effect S s D s' → Inv S ms₀ (D ∷ h) s'
kept {S} {ms₀} {h} {s} inv quiet = record { sixteen = inv.sixteen; slots = inv.slots; entries = inv.entries; ascending = inv.ascending; counted = inv.counted; sounds = inv.sounds }
kept {S} {ms₀} {h} {s} inv (asked ms keeps) = only_clouds S ms₀ h s inv AnyName ms keeps (λ j x is low. tt)
kept {S} {ms₀} {h} {s} inv (began_one p c k v valid at) =
    only_slot S ms₀ h s inv (began p c k v) p (saving (begun S s p c k v)) s.clouds valid (λ j apart. apart) (λ c k. refl) (self_keeps S ms₀ h s inv) (began_ok S ms₀ h s inv p c k v valid at)
kept {S} {ms₀} {h} {s} inv (stored_one p i v x ms valid at known size digest keeps others holds) =
    store_kept S ms₀ h s inv p i v x ms valid at keeps (stored_ok S ms₀ h s inv p i v x ms valid at known size digest keeps others holds)
kept {S} {ms₀} {h} {s} inv (committed_one p x d valid at enough low is) = commit_kept S ms₀ h s inv p x d valid at low is
kept {S} {ms₀} {h} {s} inv (passed p x valid at) =
    only_slot S ms₀ h s inv nothing p idle s.clouds valid (λ j apart. tt) (λ c k. refl) (self_keeps S ms₀ h s inv) (own S ms₀ h s inv p valid (saving x) at).resting
kept {S} {ms₀} {h} {s} inv (deleted_one p c k d valid at is) = delete_kept S ms₀ h s inv p c k d valid at is
kept {S} {ms₀} {h} {s} inv (looked p c k e l valid at is live) =
    only_slot S ms₀ h s inv (looks_first p c k) p (fetch c k e.stamp l) s.clouds valid (λ j apart. apart) (λ c k. refl) (self_keeps S ms₀ h s inv) (looked_ok S ms₀ h s inv p c k e l is live)
kept {S} {ms₀} {h} {s} inv (looked_on p x e l valid at is live) =
    only_slot S ms₀ h s inv (looks_on p) p (fetch x.container x.key e.stamp l) s.clouds valid (λ j apart. apart) (λ c k. refl) (self_keeps S ms₀ h s inv) (looked_on_ok S ms₀ h s inv p x e l valid at is live)
kept {S} {ms₀} {h} {s} inv (completed p i v x ms valid at long digest keeps) =
    only_slot S ms₀ h s inv (completes p i v) p idle ms valid (λ j apart. apart) (λ c k. refl) keeps (rw (eqb_self p) not_running)
kept {S} {ms₀} {h} {s} inv (ended p valid) =
    only_slot S ms₀ h s inv (ends p) p idle s.clouds valid (λ j apart. apart) (λ c k. refl) (self_keeps S ms₀ h s inv) (rw (eqb_self p) not_running)
kept {S} {ms₀} {h} {s} inv (began_sweeping p c k e valid at is) =
    only_slot S ms₀ h s inv nothing p (sweeping (record { container = c; key = k; stamp = e.stamp })) s.clouds valid (λ j apart. tt) (λ c k. refl) (self_keeps S ms₀ h s inv)
    (record { resting = own S ms₀ h s inv p valid idle at; low = ap (λ (o : Option EntryValue). stamp_below (stamp_of o) e.stamp) is ∙ stamp_below_irreflexive e.stamp })
kept {S} {ms₀} {h} {s} inv (swept_one p x ms valid at keeps) =
    only_clouds S ms₀ h s inv (NotBelow x.container x.key x.stamp) ms keeps (λ j y is low. swept_name S ms₀ h s inv p x valid at y low)
