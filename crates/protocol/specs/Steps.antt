-- What each call answers and leaves, for every state and whatever the caller gives. Left open is only what a cloud
-- answers, writes and becomes, within what is said of clouds.
use Rattle.std.specs.Prelude.{◌≡◌, ℕ, Bool, cond, ◌&&◌, List, [], ◌++◌, length, take, drop, replicate, Some, None, Ok, Err, Option, Result, ◌==◌}
use Rattle.std.specs.Str.{bytes_eq}
use Rattle.refusal.specs.declared.Cause.{Cause}
use Rattle.refusal.specs.declared.Cause.TheVariants.{Silent}
use Rattle.refusal.specs.declared.Refusal.{Refusal}
use Rattle.refusal.specs.declared.Refusal.TheVariants.{CloudRefused, ValueMismatch}
use Rattle.naming.specs.Stamps.{StampValue, next_stamp, no_stamp}
use Rattle.naming.specs.Names.{name_of}
use Rattle.entry.specs.Entries.{EntryValue, LiveValue}
use Rattle.cloud.specs.Meaning.{CloudMeaning}
use Rattle.cloud.specs.Outcomes.{Done, Length, NextLength, over, PutOutcome, GetOutcome, DropOutcome, NextOutcome}
use Rattle.row.specs.Rows.{Called}
use Rattle.directory.specs.declared.interface.CommitError.TheVariants.{Older, Full}
use Rattle.directory.specs.Calls.{Answer, entry_of, stamp_of, commit_answer, commit_after}
use Rattle.protocol.specs.declared.answers.CommitOutcome.{CommitOutcome}
use Rattle.protocol.specs.declared.answers.CommitOutcome.TheVariants.{Committed, Passed}
use Rattle.protocol.specs.declared.answers.Found.{Found}
use Rattle.protocol.specs.declared.answers.Listed.{Listed}
use Rattle.entry.specs.Clouds.{with_cloud, count}
use Rattle.protocol.specs.Slots.{SlotValue, SavingValue, FetchingValue, SweepingValue, idle, saving, fetching, sweeping}
use Rattle.protocol.specs.State.{Setting, State, slot_of, with_slot, with_clouds, with_directory}
use Rattle.protocol.specs.Listing.{keys_of, listing}
use Rattle.protocol.specs.Calls.{begin_save, store, commit, delete, begin_fetch, try_cloud, look_again, begin_sweep, sweep, leave, list}
use Rattle.protocol.specs.Grounds.{first_ground, first_of, caller_grounds, slot_grounds, live_of, saved_entry}
use Rattle.protocol.specs.Sweeping.{Swept}
use Rattle.protocol.specs.Events.{Event, began_save, stored, committed, deleted, began_fetch, tried, looked_again, began_sweep, swept, left, listed}

-- ---- refused, or done

abbrev pub or_refused : {X : Type 0} → Option Refusal → X → Result X Refusal
or_refused None x = Ok x
or_refused (Some e) x = Err e

abbrev pub or_kept : {X : Type 0} → Option Refusal → X → X → X
or_kept None old new = new
or_kept (Some e) old new = old

-- a call that asks no cloud: it is refused and leaves all as it stood, or answers x and leaves t
pub record Does {X : Type 0} (refusal : Option Refusal) (x : X) (t s : State) (r : Result X Refusal) (s' : State) : Type 0 where
  pub answers : r ≡ or_refused refusal x
  pub leaves : s' ≡ or_kept refusal s t

-- a call that asks a cloud: it is refused before and leaves all as it stood, or does what it does with the cloud
abbrev pub Asks : {X : Type 0} → Option Refusal → Type 0 → State → Result X Refusal → State → Type 0
Asks None done s r s' = done
Asks (Some e) done s r s' = (r ≡ Err e) × (s' ≡ s)

-- a buffer stays as it is where the call is refused before a cloud is asked
abbrev pub or_unwritten : Option Refusal → List ℕ → List ℕ → Type 0
or_unwritten None buffer buffer' = Unit {0}
or_unwritten (Some e) buffer buffer' = buffer' ≡ buffer

-- a cloud's refusal, with its number
abbrev pub cloud_refused : {X : Type 0} → ℕ → Cause → Result X Refusal
cloud_refused i e = Err (CloudRefused (record { cloud = i; cause = e }))

-- ---- what a slot has under way; the calls ask only where it has

abbrev pub saving_of : SlotValue → SavingValue
saving_of idle = record { container = 0; key = []; stamp = no_stamp; size = 0; digest = []; stored = 0 }
saving_of (saving x) = x
saving_of (fetching x) = record { container = 0; key = []; stamp = no_stamp; size = 0; digest = []; stored = 0 }
saving_of (sweeping x) = record { container = 0; key = []; stamp = no_stamp; size = 0; digest = []; stored = 0 }

abbrev pub fetching_of : SlotValue → FetchingValue
fetching_of idle = record { container = 0; key = []; stamp = no_stamp; live = record { clouds = 0; size = 0; digest = [] } }
fetching_of (saving x) = record { container = 0; key = []; stamp = no_stamp; live = record { clouds = 0; size = 0; digest = [] } }
fetching_of (fetching x) = x
fetching_of (sweeping x) = record { container = 0; key = []; stamp = no_stamp; live = record { clouds = 0; size = 0; digest = [] } }

abbrev pub sweeping_of : SlotValue → SweepingValue
sweeping_of idle = record { container = 0; key = []; stamp = no_stamp }
sweeping_of (saving x) = record { container = 0; key = []; stamp = no_stamp }
sweeping_of (fetching x) = record { container = 0; key = []; stamp = no_stamp }
sweeping_of (sweeping x) = x

-- the name under which a save puts its value
abbrev pub save_name : SavingValue → List ℕ
save_name x = name_of x.container x.key x.stamp

-- the name under which a fetch gets its value
abbrev pub fetch_name : FetchingValue → List ℕ
fetch_name x = name_of x.container x.key x.stamp

-- ---- saving

-- the stamp of the key's next write
abbrev pub new_stamp : State → ℕ → ℕ → List ℕ → StampValue
new_stamp s p c k = next_stamp (stamp_of (entry_of s.directory c k)) p

abbrev pub begun : Setting → State → ℕ → ℕ → List ℕ → List ℕ → SavingValue
begun S s p c k v =
    record { container = c; key = k; stamp = new_stamp s p c k; size = length v; digest = S.digested v; stored = 0 }

-- the save with one acknowledgement more
abbrev pub acknowledged : SavingValue → ℕ → SavingValue
acknowledged x i =
    record { container = x.container; key = x.key; stamp = x.stamp; size = x.size; digest = x.digest; stored = with_cloud x.stored i }

abbrev pub store_answer : SavingValue → ℕ → Done → Result ℕ Refusal
store_answer x i (Ok t) = Ok (count (with_cloud x.stored i))
store_answer x i (Err e) = cloud_refused i e

abbrev pub after_store : State → ℕ → SavingValue → ℕ → Done → State
after_store s p x i (Ok t) = with_slot s p (saving (acknowledged x i))
after_store s p x i (Err e) = s

-- the value is put at the cloud under the save's name; a put that is acknowledged counts
pub record Stores (s : State) (p i : ℕ) (v : List ℕ) (x : SavingValue) (r : Result ℕ Refusal) (s' : State) : Type 0 where
  pub said : Done
  pub cloud : Called s.clouds i s'.clouds (λ m m'. PutOutcome m (save_name x) v said m') (said ≡ Err Silent)
  pub answers : r ≡ store_answer x i said
  pub leaves : s' ≡ with_clouds (after_store s p x i said) s'.clouds

abbrev pub commit_outcome : Answer → CommitOutcome
commit_outcome (Ok t) = Committed
commit_outcome (Err Older) = Passed
commit_outcome (Err Full) = Passed

abbrev pub after_commit : State → ℕ → SavingValue → State
after_commit s p x = with_slot (with_directory s (commit_after s.directory x.container x.key (saved_entry x))) p idle

-- ---- deleting

abbrev pub deleted_entry : StampValue → EntryValue
deleted_entry stamp = record { stamp = stamp; live = None }

abbrev pub after_delete : State → ℕ → ℕ → List ℕ → State
after_delete s p c k = with_directory s (commit_after s.directory c k (deleted_entry (new_stamp s p c k)))

-- ---- fetching

abbrev pub size_of : Option LiveValue → ℕ
size_of None = 0
size_of (Some l) = l.size

abbrev pub found_entry : Option EntryValue → Found
found_entry e = record { stamp = stamp_of e; size = size_of (live_of e) }

-- a fetch of the key that has looked: over where no value is there
abbrev pub fetch_of : ℕ → List ℕ → StampValue → Option LiveValue → SlotValue
fetch_of c k stamp None = idle
fetch_of c k stamp (Some l) = fetching (record { container = c; key = k; stamp = stamp; live = l })

abbrev pub after_look : State → ℕ → ℕ → List ℕ → State
after_look s p c k = with_slot s p (fetch_of c k (stamp_of (entry_of s.directory c k)) (live_of (entry_of s.directory c k)))

-- what the cloud gave has the size and the digest of what was saved
abbrev pub is_saved_value : Setting → LiveValue → ℕ → List ℕ → Bool
is_saved_value S l n part = n == l.size && bytes_eq l.digest (S.digested part)

abbrev pub try_answer : Setting → FetchingValue → ℕ → Length → List ℕ → Result ℕ Refusal
try_answer S x i (Ok n) part = cond (is_saved_value S x.live n part) (Ok x.live.size) (Err ValueMismatch)
try_answer S x i (Err e) part = cloud_refused i e

-- what then stands in the part: the value, or zeros
abbrev pub part_after : Setting → FetchingValue → Length → List ℕ → List ℕ
part_after S x (Ok n) part = cond (is_saved_value S x.live n part) part (replicate x.live.size 0)
part_after S x (Err e) part = replicate x.live.size 0

abbrev pub after_try : Setting → State → ℕ → FetchingValue → Length → List ℕ → State
after_try S s p x (Ok n) part = cond (is_saved_value S x.live n part) (with_slot s p idle) s
after_try S s p x (Err e) part = s

-- the cloud is lent the first bytes of the buffer, as many as the value has
pub record Tries (S : Setting) (s : State) (p i : ℕ) (x : FetchingValue) (buffer buffer' : List ℕ) (r : Result ℕ Refusal) (s' : State) : Type 0 where
  pub said : Length
  pub part : List ℕ
  pub whole : length part ≡ x.live.size
  pub cloud : Called s.clouds i s'.clouds (λ m m'. GetOutcome m (fetch_name x) (take x.live.size buffer) said part m') ((said ≡ Err Silent) × (part ≡ take x.live.size buffer))
  pub answers : r ≡ try_answer S x i said part
  pub writes : buffer' ≡ part_after S x said part ++ drop x.live.size buffer
  pub leaves : s' ≡ with_clouds (after_try S s p x said part) s'.clouds

-- ---- sweeping

abbrev pub next_at : ℕ → List CloudMeaning → List ℕ → List ℕ → NextLength → List ℕ → List CloudMeaning → Type 0
next_at i ms above place r place' ms' = Called ms i ms' (λ m m'. NextOutcome m above place r place' m') ((r ≡ Err Silent) × (place' ≡ place))

abbrev pub drop_at : ℕ → List CloudMeaning → List ℕ → Done → List CloudMeaning → Type 0
drop_at i ms name r ms' = Called ms i ms' (λ m m'. DropOutcome m name r m') (r ≡ Err Silent)

abbrev pub sweep_answer : ℕ → Result ℕ Cause → Result ℕ Refusal
sweep_answer i (Ok n) = Ok n
sweep_answer i (Err e) = cloud_refused i e

pub record Sweeps (s : State) (i : ℕ) (x : SweepingValue) (r : Result ℕ Refusal) (s' : State) : Type 0 where
  pub said : Result ℕ Cause
  pub chain : Swept (next_at i) (drop_at i) x s.clouds s'.clouds said
  pub answers : r ≡ sweep_answer i said
  pub leaves : s' ≡ with_clouds s s'.clouds

-- ---- listing

pub record Lists (refusal : Option Refusal) (s : State) (keys : List (List ℕ)) (buffer buffer' : List ℕ) (r : Result Listed Refusal) (s' : State) : Type 0 where
  pub answers : r ≡ or_refused refusal (record { count = length keys; bytes = length (listing keys) })
  pub writes : buffer' ≡ or_kept refusal buffer (over (listing keys) buffer)
  pub leaves : s' ≡ s

-- ---- every call

abbrev pub Step : Setting → State → Event → State → Type 0
Step S s (began_save p c k v r) s' =
    Does (first_ground S (begin_save p c k v) s) (new_stamp s p c k) (with_slot s p (saving (begun S s p c k v))) s r s'
Step S s (stored p i v r) s' =
    Asks (first_ground S (store p i v) s) (Stores s p i v (saving_of (slot_of s p)) r s') s r s'
Step S s (committed p r) s' =
    Does (first_ground S (commit p) s) (commit_outcome (commit_answer s.directory (saving_of (slot_of s p)).container (saving_of (slot_of s p)).key (saved_entry (saving_of (slot_of s p))))) (after_commit s p (saving_of (slot_of s p))) s r s'
Step S s (deleted p c k r) s' =
    Does (first_ground S (delete p c k) s) (new_stamp s p c k) (after_delete s p c k) s r s'
Step S s (began_fetch p c k r) s' =
    Does (first_ground S (begin_fetch p c k) s) (found_entry (entry_of s.directory c k)) (after_look s p c k) s r s'
Step S s (tried p i buffer buffer' r) s' =
    Asks (first_ground S (try_cloud p i buffer) s) (Tries S s p i (fetching_of (slot_of s p)) buffer buffer' r s') s r s'
    × or_unwritten (first_ground S (try_cloud p i buffer) s) buffer buffer'
Step S s (looked_again p r) s' =
    (r ≡ or_refused (first_ground S (look_again p) s) (found_entry (entry_of s.directory (fetching_of (slot_of s p)).container (fetching_of (slot_of s p)).key)))
    -- a fetch whose key has no value any more is over
    × (s' ≡ or_kept (first_of (caller_grounds ++ slot_grounds) S (look_again p) s) s (after_look s p (fetching_of (slot_of s p)).container (fetching_of (slot_of s p)).key))
Step S s (began_sweep p c k r) s' =
    Does (first_ground S (begin_sweep p c k) s) (stamp_of (entry_of s.directory c k)) (with_slot s p (sweeping (record { container = c; key = k; stamp = stamp_of (entry_of s.directory c k) }))) s r s'
Step S s (swept p i r) s' =
    Asks (first_ground S (sweep p i) s) (Sweeps s i (sweeping_of (slot_of s p)) r s') s r s'
Step S s (left p r) s' =
    Does (first_ground S (leave p) s) tt (with_slot s p idle) s r s'
Step S s (listed c buffer buffer' r) s' =
    Lists (first_ground S (list c buffer) s) s (keys_of s.directory c) buffer buffer' r s'
