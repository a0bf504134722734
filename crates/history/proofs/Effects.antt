-- What a step does to the state, by what came of the call: the little that the promises rest on.
use Rattle.std.proofs.Common.{◌≡◌, ℕ, ◌<◌, Bool, true, false, cond, not, List, length, get_or, Some, None, Ok, Err, Option, refl, ap, ◌∙◌, arith}
use Rattle.bytemap.specs.Map.{find, insert}
use Rattle.naming.specs.Stamps.{StampValue, stamp_below, next_stamp}
use Rattle.naming.specs.Names.{name_of}
use Rattle.naming.proofs.Stamps.{below_next_stamp}
use Rattle.entry.specs.Entries.{EntryValue, LiveValue}
use Rattle.cloud.specs.Meaning.{CloudMeaning}
use Rattle.row.specs.Rows.{no_cloud}
use Rattle.directory.specs.declared.interface.CommitError.TheVariants.{Older, Full}
use Rattle.directory.specs.Meaning.{DirectoryMeaning, address}
use Rattle.directory.specs.Calls.{Answer, entry_of, stamp_of, commit_answer, commit_after, when_committed, place_answer}
use Rattle.protocol.specs.declared.answers.CommitOutcome.TheVariants.{Committed, Passed}
use Rattle.entry.specs.Clouds.{count}
use Rattle.protocol.specs.Slots.{SlotValue, SavingValue, FetchingValue, SweepingValue, idle, saving, fetching, sweeping}
use Rattle.protocol.specs.State.{Setting, State, valid_party, slot_of, with_slot, with_clouds, with_directory}
use Rattle.protocol.specs.Grounds.{live_of, is_there, saved_entry}
use Rattle.protocol.specs.Steps.{begun, acknowledged, new_stamp, deleted_entry, commit_outcome}
use Rattle.history.specs.Deeds.{Deed, nothing, began, stores, commits_save, deletes, looks_first, looks_on, completes, ends}
use Rattle.history.proofs.Clouds.{Keeps, AnyName, OtherThan, NotBelow}

abbrev pub fetch : ℕ → List ℕ → StampValue → LiveValue → SlotValue
fetch c k stamp l = fetching (record { container = c; key = k; stamp = stamp; live = l })

abbrev pub save_name : SavingValue → List ℕ
save_name x = name_of x.container x.key x.stamp

pub data Effect (S : Setting) (s : State) : Deed → State → Type 0 where
  quiet : Effect S s nothing s
  -- a cloud was asked, and keeps what it held
  asked : (ms : List CloudMeaning) → Keeps AnyName s.clouds ms → Effect S s nothing (with_clouds s ms)
  began_one : (p c : ℕ) (k v : List ℕ) → valid_party p ≡ true → slot_of s p ≡ idle
      → Effect S s (began p c k v) (with_slot s p (saving (begun S s p c k v)))
  stored_one : (p i : ℕ) (v : List ℕ) (x : SavingValue) (ms : List CloudMeaning) → valid_party p ≡ true → slot_of s p ≡ saving x → i < S.clouds
      → x.size ≡ length v → x.digest ≡ S.digested v → Keeps (OtherThan (save_name x)) s.clouds ms
      → ((j : ℕ) → (j ≡ i → ⊥) → get_or ms j no_cloud ≡ get_or s.clouds j no_cloud)
      → (i < length s.clouds → (get_or s.clouds i no_cloud).sound ≡ true → find (get_or ms i no_cloud).held (save_name x) ≡ Some v)
      → Effect S s (stores p i v) (with_slot (with_clouds s ms) p (saving (acknowledged x i)))
  committed_one : (p : ℕ) (x : SavingValue) (d : DirectoryMeaning) → valid_party p ≡ true → slot_of s p ≡ saving x → S.faults < count x.stored
      → stamp_below (stamp_of (entry_of s.directory x.container x.key)) x.stamp ≡ true
      → d.entries ≡ insert s.directory.entries (address x.container x.key) (saved_entry x)
      → Effect S s (commits_save p) (with_slot (with_directory s d) p idle)
  passed : (p : ℕ) (x : SavingValue) → valid_party p ≡ true → slot_of s p ≡ saving x → Effect S s nothing (with_slot s p idle)
  deleted_one : (p c : ℕ) (k : List ℕ) (d : DirectoryMeaning) → valid_party p ≡ true → slot_of s p ≡ idle
      → d.entries ≡ insert s.directory.entries (address c k) (deleted_entry (new_stamp s p c k))
      → Effect S s (deletes p c k) (with_directory s d)
  looked : (p c : ℕ) (k : List ℕ) (e : EntryValue) (l : LiveValue) → valid_party p ≡ true → slot_of s p ≡ idle
      → entry_of s.directory c k ≡ Some e → e.live ≡ Some l → Effect S s (looks_first p c k) (with_slot s p (fetch c k e.stamp l))
  looked_on : (p : ℕ) (x : FetchingValue) (e : EntryValue) (l : LiveValue) → valid_party p ≡ true → slot_of s p ≡ fetching x
      → entry_of s.directory x.container x.key ≡ Some e → e.live ≡ Some l
      → Effect S s (looks_on p) (with_slot s p (fetch x.container x.key e.stamp l))
  completed : (p i : ℕ) (v : List ℕ) (x : FetchingValue) (ms : List CloudMeaning) → valid_party p ≡ true → slot_of s p ≡ fetching x
      → length v ≡ x.live.size → x.live.digest ≡ S.digested v → Keeps AnyName s.clouds ms
      → Effect S s (completes p i v) (with_slot (with_clouds s ms) p idle)
  ended : (p : ℕ) → valid_party p ≡ true → Effect S s (ends p) (with_slot s p idle)
  began_sweeping : (p c : ℕ) (k : List ℕ) (e : EntryValue) → valid_party p ≡ true → slot_of s p ≡ idle → entry_of s.directory c k ≡ Some e
      → Effect S s nothing (with_slot s p (sweeping (record { container = c; key = k; stamp = e.stamp })))
  swept_one : (p : ℕ) (x : SweepingValue) (ms : List CloudMeaning) → valid_party p ≡ true → slot_of s p ≡ sweeping x
      → Keeps (NotBelow x.container x.key x.stamp) s.clouds ms → Effect S s nothing (with_clouds s ms)

-- ---- entries

pub is_some_of : {X : Type 0} (o : Option X) → not (is_there o) ≡ false → (x : X) × (o ≡ Some x)
is_some_of None h = absurd (grind arith)
is_some_of (Some x) h = (x, refl)

pub is_none_of : {X : Type 0} (o : Option X) → not (is_there o) ≡ true → o ≡ None
is_none_of None h = refl
is_none_of (Some x) h = absurd (grind arith)

-- a live entry is an entry
pub live_entry : (o : Option EntryValue) (l : LiveValue) → live_of o ≡ Some l → (e : EntryValue) × (o ≡ Some e) × (e.live ≡ Some l)
live_entry None l h = absurd (grind arith)
live_entry (Some e) l h = (e, refl, h)

-- ---- commits

committed_below : (b : Bool) (a : Answer) → cond b a (Err Older) ≡ Ok tt → b ≡ true
committed_below true a h = refl
committed_below false a h = absurd (grind arith)

pub set_is_below : (m : DirectoryMeaning) (c : ℕ) (k : List ℕ) (e : EntryValue) → commit_answer m c k e ≡ Ok tt → stamp_below (stamp_of (entry_of m c k)) e.stamp ≡ true
unfolding commit_answer
set_is_below m c k e h = committed_below (stamp_below (stamp_of (entry_of m c k)) e.stamp) (place_answer (entry_of m c k) m.free) h

pub set_entries : (m : DirectoryMeaning) (c : ℕ) (k : List ℕ) (e : EntryValue) → commit_answer m c k e ≡ Ok tt → (commit_after m c k e).entries ≡ insert m.entries (address c k) e
unfolding commit_after
set_entries m c k e h = ap (λ (a : Answer). (when_committed a m c k e).entries) h

not_set_same : (m : DirectoryMeaning) (c : ℕ) (k : List ℕ) (e : EntryValue) (a : Answer) → commit_outcome a ≡ Passed → when_committed a m c k e ≡ m
not_set_same m c k e (Ok t) h = absurd (grind arith)
not_set_same m c k e (Err Older) h = refl
not_set_same m c k e (Err Full) h = refl

pub passed_same : (m : DirectoryMeaning) (c : ℕ) (k : List ℕ) (e : EntryValue) → commit_outcome (commit_answer m c k e) ≡ Passed → commit_after m c k e ≡ m
unfolding commit_after
passed_same m c k e h = not_set_same m c k e (commit_answer m c k e) h

pub outcome_set : (a : Answer) → commit_outcome a ≡ Committed → a ≡ Ok tt
outcome_set (Ok t) h = refl
outcome_set (Err Older) h = absurd (grind arith)
outcome_set (Err Full) h = absurd (grind arith)

-- an entry that stands gives way to the next stamp
pub next_is_set : (m : DirectoryMeaning) (c : ℕ) (k : List ℕ) (e : EntryValue) (p : ℕ) (x : EntryValue) → entry_of m c k ≡ Some x → e.stamp ≡ next_stamp (stamp_of (entry_of m c k)) p → commit_answer m c k e ≡ Ok tt
unfolding commit_answer
next_is_set m c k e p x is next =
    let low : stamp_below (stamp_of (entry_of m c k)) e.stamp ≡ true = ap (λ (t : StampValue). stamp_below (stamp_of (entry_of m c k)) t) next ∙ below_next_stamp (stamp_of (entry_of m c k)) p in
    rw (low, ap (λ (o : Option EntryValue). place_answer o m.free) is)
