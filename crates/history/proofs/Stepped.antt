-- Every step has such an effect.
use Rattle.std.proofs.Common.{◌≡◌, ℕ, ◌<◌, Bool, true, false, cond, not, eqb, leb, List, ◌++◌, length, get_or, take, drop, Some, None, Ok, Err, Option, Result, sym, refl, ap, ◌∙◌, subst, ⊎_elim, arith, get_or-set_other}
use Rattle.std.specs.Str.{bytes_eq}
use Rattle.std.proofs.lemmas.Bool.{cases_Bool, not-false, leb-false, and_parts, eqb-true}
use Rattle.std.proofs.lemmas.List.{take_at}
use Rattle.refusal.specs.declared.Cause.{Cause}
use Rattle.refusal.specs.declared.Cause.TheVariants.{Silent}
use Rattle.refusal.specs.declared.Refusal.{Refusal}
use Rattle.refusal.specs.declared.Refusal.TheVariants.{NoEntry, ValueMismatch}
use Rattle.refusal.specs.Numbers.{refusal_number}
use Rattle.bytemap.specs.Map.{find}
use Rattle.bytemap.proofs.Find.{same_is}
use Rattle.naming.specs.Stamps.{StampValue}
use Rattle.naming.specs.Names.{name_of}
use Rattle.entry.specs.Entries.{EntryValue, LiveValue}
use Rattle.cloud.specs.Meaning.{CloudMeaning}
use Rattle.cloud.specs.Outcomes.{Done, Length, PutOutcome, put_after, when_put}
use Rattle.row.specs.Rows.{no_cloud, Called}
use Rattle.directory.specs.Meaning.{DirectoryMeaning}
use Rattle.directory.specs.Calls.{Answer, entry_of, stamp_of, commit_answer, commit_after}
use Rattle.protocol.specs.declared.answers.CommitOutcome.{CommitOutcome}
use Rattle.protocol.specs.declared.answers.CommitOutcome.TheVariants.{Committed, Passed}
use Rattle.entry.specs.Clouds.{count}
use Rattle.protocol.specs.Slots.{SlotValue, SavingValue, FetchingValue, idle, saving, fetching, sweeping, is_saving, is_fetching, of_fetching}
use Rattle.protocol.specs.State.{Setting, State, valid_party, slot_of, with_slot, with_clouds, with_directory}
use Rattle.protocol.specs.Calls.{Call, begin_save, store, commit, delete, begin_fetch, try_cloud, look_again, begin_sweep, sweep, leave}
use Rattle.protocol.specs.Grounds.{Ground, first_ground, first_of, caller_grounds, slot_grounds, directory_grounds, buffer_grounds, live_of, has_no_live, saved_entry, is_begun_value}
use Rattle.protocol.specs.declared.answers.Found.{Found}
use Rattle.protocol.specs.Events.{Event, began_save, stored, committed, deleted, began_fetch, tried, looked_again, began_sweep, swept, left, listed}
use Rattle.protocol.specs.Steps.{Step, Does, Asks, Stores, Tries, Sweeps, or_refused, or_kept, saving_of, fetching_of, sweeping_of, begun, new_stamp, deleted_entry, after_commit, after_delete, after_look, commit_outcome, found_entry, fetch_of, store_answer, after_store, try_answer, part_after, after_try, is_saved_value}
use Rattle.history.specs.Deeds.{Deed, deed, nothing}
use Rattle.history.proofs.Clouds.{Keeps, KeepsOne, AnyName, OtherThan, called_keeps, put_keeps, put_holds, get_keeps, swept_keeps}
use Rattle.history.proofs.Grounds.{NoneHolds, none_holds, then_first, first_of_both, other_number, accepted, rejected, idle_is, saving_is, fetching_is, sweeping_is, of_saving_is, of_fetching_is}
use Rattle.history.proofs.Effects.{Effect, quiet, asked, began_one, stored_one, committed_one, passed, deleted_one, looked, looked_on, completed, ended, began_sweeping, swept_one, fetch, save_name, is_some_of, is_none_of, live_entry, set_is_below, set_entries, passed_same, outcome_set, next_is_set}

abbrev all_grounds : List Ground
all_grounds = caller_grounds ++ (slot_grounds ++ (directory_grounds ++ buffer_grounds))

module _ (S : Setting) (s : State) where
  -- the end state is known by an equation
  at : (d : Deed) (t s' : State) → s' ≡ t → Effect S s d t → Effect S s d s'
  at d t s' e x = subst (λ (u : State). Effect S s d u) (sym e) x

  facts : (c : Call) → first_ground S c s ≡ None → NoneHolds all_grounds S c s
  facts c h = none_holds all_grounds S c s h

  -- a refused call that asks no cloud
  still : {X : Type 0} (g : Option Refusal) (x : X) (t s' : State) (e : Refusal) → Does g x t s (Err e) s' → Effect S s nothing s'
  still g x t s' e d = at nothing s s' (d.leaves ∙ ap (λ (o : Option Refusal). or_kept o s t) (rejected g e x d.answers)) quiet

  -- where it is accepted
  done : {X : Type 0} (g : Option Refusal) (a x : X) (t s' : State) → Does g x t s (Ok a) s' → (g ≡ None) × (s' ≡ t)
  done g a x t s' d = let (n, e) = accepted g a x d.answers in (n, d.leaves ∙ ap (λ (o : Option Refusal). or_kept o s t) n)

  began_save_effect : (p c : ℕ) (k v : List ℕ) (r : Result StampValue Refusal) (s' : State) → Step S s (began_save p c k v r) s' → Effect S s (deed (began_save p c k v r)) s'
  began_save_effect p c k v (Err e) s' d = still _ _ _ s' e d
  began_save_effect p c k v (Ok a) s' d =
      let (n, e) = done (first_ground S (begin_save p c k v) s) a (new_stamp s p c k) (with_slot s p (saving (begun S s p c k v))) s' d in
      let f = facts (begin_save p c k v) n in
      at _ _ s' e (began_one p c k v (not-false (valid_party p) f.0) (idle_is (slot_of s p) f.1.1.1.1.0))

  left_effect : (p : ℕ) (r : Result (Unit {0}) Refusal) (s' : State) → Step S s (left p r) s' → Effect S s (deed (left p r)) s'
  left_effect p (Err e) s' d = still _ _ _ s' e d
  left_effect p (Ok a) s' d =
      let (n, e) = done (first_ground S (leave p) s) a tt (with_slot s p idle) s' d in
      at _ _ s' e (ended p (not-false (valid_party p) (facts (leave p) n).0))

  -- ---- store

  -- a sound cloud that refuses a put is as it was
  refused_put_keeps : (name v : List ℕ) (e : Cause) (m m' : CloudMeaning) → PutOutcome m name v (Err e) m' → KeepsOne AnyName m m'
  unfolding put_after
  refused_put_keeps name v e m m' o =
      let same : m.sound ≡ true → m' ≡ m = λ t. o.after t ∙ ap (λ (r : Done). when_put r m name v) (sym (o.answer t)) in
      record { stays = λ t. ap (λ (x : CloudMeaning). x.sound) (same t) ∙ t; keeps = λ t n _. ap (λ (x : CloudMeaning). find x.held n) (same t) }

  put_effect : (p i : ℕ) (v : List ℕ) (r : Result ℕ Refusal) (s' : State) (x : SavingValue) (said : Done)
      → valid_party p ≡ true → slot_of s p ≡ saving x → i < S.clouds → x.size ≡ length v → x.digest ≡ S.digested v
      → Called s.clouds i s'.clouds (λ m m'. PutOutcome m (save_name x) v said m') (said ≡ Err Silent)
      → r ≡ store_answer x i said → s' ≡ with_clouds (after_store s p x i said) s'.clouds → Effect S s (deed (stored p i v r)) s'
  put_effect p i v (Ok n) s' x (Ok t) party slot known size digest called answers leaves =
      at _ _ s' leaves (stored_one p i v x s'.clouds party slot known size digest
      (called_keeps (OtherThan (save_name x)) s.clouds i s'.clouds _ _ called (λ m m' o. put_keeps (save_name x) v (Ok t) m m' o))
      (λ j n. ap (λ (ms : List CloudMeaning). get_or ms j no_cloud) called.others ∙ get_or-set_other s.clouds i j (get_or s'.clouds i no_cloud) no_cloud n)
      (λ l sound. put_holds (save_name x) v (get_or s.clouds i no_cloud) (get_or s'.clouds i no_cloud) (called.here l) sound))
  put_effect p i v (Ok n) s' x (Err e) party slot known size digest called answers leaves = absurd (grind arith)
  put_effect p i v (Err f) s' x (Ok t) party slot known size digest called answers leaves = absurd (grind arith)
  put_effect p i v (Err f) s' x (Err e) party slot known size digest called answers leaves =
      at _ _ s' leaves (asked s'.clouds (called_keeps AnyName s.clouds i s'.clouds _ _ called (λ m m' o. refused_put_keeps (save_name x) v e m m' o)))

  store_effect : (p i : ℕ) (v : List ℕ) (r : Result ℕ Refusal) (s' : State) (g : Option Refusal) → first_ground S (store p i v) s ≡ g
      → Asks g (Stores s p i v (saving_of (slot_of s p)) r s') s r s' → Effect S s (deed (stored p i v r)) s'
  store_effect p i v (Ok n) s' (Some e) h d = absurd (grind arith)
  store_effect p i v (Err f) s' (Some e) h d = at _ _ s' d.1 quiet
  store_effect p i v r s' None h d =
      let f = facts (store p i v) h in
      let y : SlotValue = slot_of s p in
      let ready : not (is_saving y) ≡ false = f.1.1.1.1.1.0 in
      let x : SavingValue = saving_of y in
      let fits : is_begun_value S v x ≡ true = not-false (is_begun_value S v x) (of_saving_is y (λ z. not (is_begun_value S v z)) ready f.1.1.1.1.1.1.0) in
      let both = and_parts (eqb (length v) x.size) (bytes_eq x.digest (S.digested v)) fits in
      put_effect p i v r s' x d.said (not-false (valid_party p) f.0) (saving_is y ready) (leb-false S.clouds i f.1.1.1.0)
      (sym (eqb-true (length v) x.size both.0)) (same_is x.digest (S.digested v) both.1) d.cloud d.answers d.leaves

  -- ---- commit

  commit_effect : (p : ℕ) (r : Result CommitOutcome Refusal) (s' : State) → Step S s (committed p r) s' → Effect S s (deed (committed p r)) s'
  commit_effect p (Err e) s' d = still _ _ _ s' e d
  commit_effect p (Ok a) s' d = by a n.1 where
    x : SavingValue
    x = saving_of (slot_of s p)

    answer : Answer
    answer = commit_answer s.directory x.container x.key (saved_entry x)

    n : (first_ground S (commit p) s ≡ None) × (a ≡ commit_outcome answer)
    n = accepted (first_ground S (commit p) s) a (commit_outcome answer) d.answers

    f : NoneHolds all_grounds S (commit p) s
    f = facts (commit p) n.0

    e : s' ≡ after_commit s p x
    e = d.leaves ∙ ap (λ (o : Option Refusal). or_kept o s (after_commit s p x)) n.0

    ready : not (is_saving (slot_of s p)) ≡ false
    ready = f.1.1.1.1.1.0

    party : valid_party p ≡ true
    party = not-false (valid_party p) f.0

    enough : S.faults < count x.stored
    enough = leb-false (count x.stored) S.faults (of_saving_is (slot_of s p) (λ z. leb (count z.stored) S.faults) ready f.1.1.1.1.1.1.1.1.0)

    by : (b : CommitOutcome) → b ≡ commit_outcome answer → Effect S s (deed (committed p (Ok b))) s'
    by Committed h =
        let set : answer ≡ Ok tt = outcome_set answer (sym h) in
        at _ _ s' e (committed_one p x (commit_after s.directory x.container x.key (saved_entry x)) party (saving_is (slot_of s p) ready) enough
        (set_is_below s.directory x.container x.key (saved_entry x) set) (set_entries s.directory x.container x.key (saved_entry x) set))
    by Passed h =
        let same : commit_after s.directory x.container x.key (saved_entry x) ≡ s.directory = passed_same s.directory x.container x.key (saved_entry x) (sym h) in
        at _ _ s' (e ∙ ap (λ (m : DirectoryMeaning). with_slot (with_directory s m) p idle) same) (passed p x party (saving_is (slot_of s p) ready))

  -- ---- delete

  delete_effect : (p c : ℕ) (k : List ℕ) (r : Result StampValue Refusal) (s' : State) → Step S s (deleted p c k r) s' → Effect S s (deed (deleted p c k r)) s'
  delete_effect p c k (Err e) s' d = still _ _ _ s' e d
  delete_effect p c k (Ok a) s' d =
      let (n, e) = done (first_ground S (delete p c k) s) a (new_stamp s p c k) (after_delete s p c k) s' d in
      let f = facts (delete p c k) n in
      let there = is_some_of (live_of (entry_of s.directory c k)) f.1.1.1.1.1.1.1.1.1.1.0 in
      let stands = live_entry (entry_of s.directory c k) there.0 there.1 in
      let x : EntryValue = deleted_entry (new_stamp s p c k) in
      at _ _ s' e (deleted_one p c k (commit_after s.directory c k x) (not-false (valid_party p) f.0) (idle_is (slot_of s p) f.1.1.1.1.0)
      (set_entries s.directory c k x (next_is_set s.directory c k x p stands.0 stands.1 refl)))

  -- ---- fetch

  fetch_is : (c : ℕ) (k : List ℕ) (o : Option EntryValue) (e : EntryValue) (l : LiveValue) → o ≡ Some e → e.live ≡ Some l → fetch_of c k (stamp_of o) (live_of o) ≡ fetch c k e.stamp l
  fetch_is c k o e l is live = ap (λ (x : Option EntryValue). fetch_of c k (stamp_of x) (live_of x)) is ∙ ap (λ (x : Option LiveValue). fetch_of c k e.stamp x) live

  fetch_effect : (p c : ℕ) (k : List ℕ) (r : Result Found Refusal) (s' : State) → Step S s (began_fetch p c k r) s' → Effect S s (deed (began_fetch p c k r)) s'
  fetch_effect p c k (Err e) s' d = still _ _ _ s' e d
  fetch_effect p c k (Ok a) s' d =
      let o : Option EntryValue = entry_of s.directory c k in
      let (n, e) = done (first_ground S (begin_fetch p c k) s) a (found_entry o) (after_look s p c k) s' d in
      let f = facts (begin_fetch p c k) n in
      let there = is_some_of (live_of o) f.1.1.1.1.1.1.1.1.1.1.0 in
      let stands = live_entry o there.0 there.1 in
      at _ _ s' (e ∙ ap (λ (y : SlotValue). with_slot s p y) (fetch_is c k o stands.0 there.0 stands.1 stands.2))
      (looked p c k stands.0 there.0 (not-false (valid_party p) f.0) (idle_is (slot_of s p) f.1.1.1.1.0) stands.1 stands.2)

  -- ---- begin-sweep and sweep

  began_sweep_effect : (p c : ℕ) (k : List ℕ) (r : Result StampValue Refusal) (s' : State) → Step S s (began_sweep p c k r) s' → Effect S s (deed (began_sweep p c k r)) s'
  began_sweep_effect p c k (Err e) s' d = still _ _ _ s' e d
  began_sweep_effect p c k (Ok a) s' d =
      let o : Option EntryValue = entry_of s.directory c k in
      let (n, e) = done (first_ground S (begin_sweep p c k) s) a (stamp_of o) (with_slot s p (sweeping (record { container = c; key = k; stamp = stamp_of o }))) s' d in
      let f = facts (begin_sweep p c k) n in
      let there = is_some_of o f.1.1.1.1.1.1.1.1.1.1.0 in
      at _ _ s' (e ∙ ap (λ (x : Option EntryValue). with_slot s p (sweeping (record { container = c; key = k; stamp = stamp_of x }))) there.1)
      (began_sweeping p c k there.0 (not-false (valid_party p) f.0) (idle_is (slot_of s p) f.1.1.1.1.0) there.1)

  swept_effect : (p i : ℕ) (r : Result ℕ Refusal) (s' : State) (g : Option Refusal) → first_ground S (sweep p i) s ≡ g
      → Asks g (Sweeps s i (sweeping_of (slot_of s p)) r s') s r s' → Effect S s nothing s'
  swept_effect p i r s' (Some e) h d = at _ _ s' d.1 quiet
  swept_effect p i r s' None h d =
      let f = facts (sweep p i) h in
      at _ _ s' d.leaves (swept_one p (sweeping_of (slot_of s p)) s'.clouds (not-false (valid_party p) f.0)
      (sweeping_is (slot_of s p) f.1.1.1.1.1.0) (swept_keeps (sweeping_of (slot_of s p)) i d.chain))

  -- ---- try

  -- what an accepted try left in the buffer is what the cloud left in its part, and that is the value which was asked for
  pub record Matched (p i n : ℕ) (x : FetchingValue) (bytes : List ℕ) (s' : State) : Type 0 where
    pub party : valid_party p ≡ true
    pub slot : slot_of s p ≡ fetching x
    pub size : n ≡ x.live.size
    pub long : length bytes ≡ x.live.size
    pub digest : x.live.digest ≡ S.digested bytes
    pub kept : Keeps AnyName s.clouds s'.clouds
    pub leaves : s' ≡ with_slot (with_clouds s s'.clouds) p idle

  got : (i n : ℕ) (x : FetchingValue) (said : Length) (part : List ℕ) → Ok n ≡ try_answer S x i said part
      → (n ≡ x.live.size) × (part_after S x said part ≡ part) × (x.live.digest ≡ S.digested part) × ((p : ℕ) → after_try S s p x said part ≡ with_slot s p idle)
  got i n x (Err e) part h = absurd (grind arith)
  got i n x (Ok m) part h = ⊎_elim
      (λ (b : is_saved_value S x.live m part ≡ true).
      let both = and_parts (eqb m x.live.size) (bytes_eq x.live.digest (S.digested part)) b in
      let h' : Ok n ≡ Ok x.live.size = h ∙ ap (λ (t : Bool). cond t (Ok x.live.size) (Err ValueMismatch)) b in
      (cc h', rw b, same_is x.live.digest (S.digested part) both.1, λ p. rw b))
      (λ (b : is_saved_value S x.live m part ≡ false).
      let h' : Ok n ≡ Err ValueMismatch = h ∙ ap (λ (t : Bool). cond t (Ok x.live.size) (Err ValueMismatch)) b in
      absurd (grind arith))
      (cases_Bool (is_saved_value S x.live m part))

  pub matched : (p i n : ℕ) (buffer buffer' : List ℕ) (s' : State) → Step S s (tried p i buffer buffer' (Ok n)) s'
      → (x : FetchingValue) × Matched p i n x (take n buffer') s'
  matched p i n buffer buffer' s' d = by (first_ground S (try_cloud p i buffer) s) refl d.0 where
    x : FetchingValue
    x = fetching_of (slot_of s p)

    by : (g : Option Refusal) → first_ground S (try_cloud p i buffer) s ≡ g → Asks g (Tries S s p i x buffer buffer' (Ok n) s') s (Ok n) s'
        → (z : FetchingValue) × Matched p i n z (take n buffer') s'
    by (Some e) h a = absurd (grind arith)
    by None h a =
        let f = facts (try_cloud p i buffer) h in
        let (size, after, digest, gone) = got i n x a.said a.part a.answers in
        let front : buffer' ≡ a.part ++ drop x.live.size buffer = a.writes ∙ ap (λ (b : List ℕ). b ++ drop x.live.size buffer) after in
        let same : take n buffer' ≡ a.part = ap (λ (b : List ℕ). take n b) front ∙ take_at a.part (drop x.live.size buffer) n (a.whole ∙ sym size) in (
          x,
          record {
            party = not-false (valid_party p) f.0;
            slot = fetching_is (slot_of s p) f.1.1.1.1.1.0;
            size = size;
            long = ap length same ∙ a.whole;
            digest = digest ∙ ap S.digested (sym same);
            kept = called_keeps AnyName s.clouds i s'.clouds _ _ a.cloud (λ m m' o. get_keeps AnyName (name_of x.container x.key x.stamp) (take x.live.size buffer) a.said a.part m m' o);
            leaves = a.leaves ∙ ap (λ (t : State). with_clouds t s'.clouds) (gone p);
          },
        )

  refused_try : (p i : ℕ) (buffer buffer' : List ℕ) (e : Refusal) (s' : State) (g : Option Refusal) → first_ground S (try_cloud p i buffer) s ≡ g
      → Asks {X = ℕ} g (Tries S s p i (fetching_of (slot_of s p)) buffer buffer' (Err e) s') s (Err e) s' → Effect S s nothing s'
  refused_try p i buffer buffer' e s' (Some f) h a = at _ _ s' a.1 quiet
  refused_try p i buffer buffer' e s' None h a =
      at _ _ s' (a.leaves ∙ ap (λ (t : State). with_clouds t s'.clouds) (unmatched a.said a.part a.answers))
      (asked s'.clouds (called_keeps AnyName s.clouds i s'.clouds _ _ a.cloud (λ m m' o. get_keeps AnyName (name_of x.container x.key x.stamp) (take x.live.size buffer) a.said a.part m m' o)))
    where
      x : FetchingValue
      x = fetching_of (slot_of s p)

      unmatched : (said : Length) (part : List ℕ) → Err e ≡ try_answer S x i said part → after_try S s p x said part ≡ s
      unmatched (Err f) part h = refl
      unmatched (Ok m) part h = ⊎_elim
          (λ (b : is_saved_value S x.live m part ≡ true).
          let h' : Err e ≡ Ok x.live.size = h ∙ ap (λ (t : Bool). cond t (Ok x.live.size) (Err ValueMismatch)) b in absurd (grind arith))
          (λ (b : is_saved_value S x.live m part ≡ false). rw b)
          (cases_Bool (is_saved_value S x.live m part))

  try_effect : (p i : ℕ) (buffer buffer' : List ℕ) (r : Result ℕ Refusal) (s' : State) → Step S s (tried p i buffer buffer' r) s' → Effect S s (deed (tried p i buffer buffer' r)) s'
  try_effect p i buffer buffer' (Err e) s' d = refused_try p i buffer buffer' e s' (first_ground S (try_cloud p i buffer) s) refl d.0
  try_effect p i buffer buffer' (Ok n) s' d =
      let (x, m) = matched p i n buffer buffer' s' d in
      at _ _ s' m.leaves (completed p i (take n buffer') x s'.clouds m.party m.slot m.long m.digest m.kept)

  -- ---- look-again

  again_effect : (p : ℕ) (r : Result Found Refusal) (s' : State) → Step S s (looked_again p r) s' → Effect S s (deed (looked_again p r)) s'
  again_effect p r s' d = by r d.0 (first_of (caller_grounds ++ slot_grounds) S (look_again p) s) refl where
    y : SlotValue
    y = slot_of s p

    x : FetchingValue
    x = fetching_of y

    o : Option EntryValue
    o = entry_of s.directory x.container x.key

    early : Option Refusal
    early = first_of (caller_grounds ++ slot_grounds) S (look_again p) s

    late : Option Refusal
    late = first_of (directory_grounds ++ buffer_grounds) S (look_again p) s

    split : first_ground S (look_again p) s ≡ then_first early late
    split = first_of_both (caller_grounds ++ slot_grounds) (directory_grounds ++ buffer_grounds) S (look_again p) s

    leaves : (g : Option Refusal) → early ≡ g → s' ≡ or_kept g s (after_look s p x.container x.key)
    leaves g h = d.1 ∙ ap (λ (q : Option Refusal). or_kept q s (after_look s p x.container x.key)) h

    -- of the later grounds only a missing entry concerns the call
    late_is : late ≡ cond (of_fetching y (λ z. has_no_live s z.container z.key)) (Some NoEntry) None
    late_is = refl

    by : (q : Result Found Refusal) → q ≡ or_refused (first_ground S (look_again p) s) (found_entry o) → (g : Option Refusal) → early ≡ g → Effect S s (deed (looked_again p q)) s'
    by (Ok a) h (Some e) is =
        let h' : Ok a ≡ or_refused (Some e) (found_entry o) = h ∙ ap (λ (q : Option Refusal). or_refused q (found_entry o)) (split ∙ ap (λ (q : Option Refusal). then_first q late) is) in
        absurd (grind arith)
    by (Ok a) h None is =
        let n = accepted (first_ground S (look_again p) s) a (found_entry o) h in
        let f = facts (look_again p) n.0 in
        let ready : not (is_fetching y) ≡ false = f.1.1.1.1.1.0 in
        let there = is_some_of (live_of o) (of_fetching_is y (λ z. has_no_live s z.container z.key) false ready f.1.1.1.1.1.1.1.1.1.1.0) in
        let stands = live_entry o there.0 there.1 in
        at _ _ s' (leaves None is ∙ ap (λ (z : SlotValue). with_slot s p z) (fetch_is x.container x.key o stands.0 there.0 stands.1 stands.2))
        (looked_on p x stands.0 there.0 (not-false (valid_party p) f.0) (fetching_is y ready) stands.1 stands.2)
    by (Err e) h (Some f) is =
        let g : first_ground S (look_again p) s ≡ Some e = rejected (first_ground S (look_again p) s) e (found_entry o) h in
        let same : Some f ≡ Some e = sym (split ∙ ap (λ (q : Option Refusal). then_first q late) is) ∙ g in
        let early_is : early ≡ Some e = is ∙ same in
        let other : eqb (refusal_number e) 14 ≡ false = other_number 14 (caller_grounds ++ slot_grounds) S (look_again p) s e (refl, (refl, (refl, (refl, (refl, (refl, (refl, (refl, (refl, (refl, tt)))))))))) early_is in
        rw other (at nothing _ s' (leaves (Some e) early_is) quiet)
    by (Err e) h None is =
        let g : first_ground S (look_again p) s ≡ Some e = rejected (first_ground S (look_again p) s) e (found_entry o) h in
        let l : late ≡ Some e = sym (split ∙ ap (λ (q : Option Refusal). then_first q late) is) ∙ g in
        let f = none_holds (caller_grounds ++ slot_grounds) S (look_again p) s is in
        let ready : not (is_fetching y) ≡ false = f.1.1.1.1.1.0 in
        let gone : of_fetching y (λ z. has_no_live s z.container z.key) ≡ true = only (of_fetching y (λ z. has_no_live s z.container z.key)) e l in
        let none : live_of o ≡ None = is_none_of (live_of o) (of_fetching_is y (λ z. has_no_live s z.container z.key) true ready gone) in
        let e_is : e ≡ NoEntry = which (of_fetching y (λ z. has_no_live s z.container z.key)) e l in
        let over : s' ≡ with_slot s p idle = leaves None is ∙ ap (λ (z : Option LiveValue). with_slot s p (fetch_of x.container x.key (stamp_of o) z)) none in
        subst (λ (q : Refusal). Effect S s (deed (looked_again p (Err q))) s') (sym e_is) (at _ _ s' over (ended p (not-false (valid_party p) f.0)))
      where
        only : (b : Bool) (e : Refusal) → cond b (Some NoEntry) None ≡ Some e → b ≡ true
        only true e h = refl
        only false e h = absurd (grind arith)

        which : (b : Bool) (e : Refusal) → cond b (Some NoEntry) None ≡ Some e → e ≡ NoEntry
        which true e h = let same : NoEntry ≡ e = cc h in sym same
        which false e h = absurd (grind arith)

-- every step
pub effect_of : (S : Setting) (s : State) (e : Event) (s' : State) → Step S s e s' → Effect S s (deed e) s'
effect_of S s (began_save p c k v r) s' d = began_save_effect S s p c k v r s' d
effect_of S s (stored p i v r) s' d = store_effect S s p i v r s' (first_ground S (store p i v) s) refl d
effect_of S s (committed p r) s' d = commit_effect S s p r s' d
effect_of S s (deleted p c k r) s' d = delete_effect S s p c k r s' d
effect_of S s (began_fetch p c k r) s' d = fetch_effect S s p c k r s' d
effect_of S s (tried p i buffer buffer' r) s' d = try_effect S s p i buffer buffer' r s' d
effect_of S s (looked_again p r) s' d = again_effect S s p r s' d
effect_of S s (began_sweep p c k r) s' d = began_sweep_effect S s p c k r s' d
effect_of S s (swept p i r) s' d = swept_effect S s p i r s' (first_ground S (sweep p i) s) refl d
effect_of S s (left p r) s' d = left_effect S s p r s' d
effect_of S s (listed c buffer buffer' r) s' d = at S s nothing s s' d.leaves quiet
