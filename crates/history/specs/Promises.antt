-- The three promises, over every run of calls at an opened Locker.
use Rattle.std.specs.Prelude.{◌≡◌, ℕ, ◌<◌, ◌≤◌, true, false, ◌⊎◌, ◌↔◌, List, [], ◌∷◌, length, take, replicate, Some, None, Ok, Option, Result, slice_index_or}
use mathlib.Core.List.{Memᴰ}
use Rattle.refusal.specs.declared.Refusal.{Refusal}
use Rattle.byte_strings.specs.Order.{below}
use Rattle.cloud.specs.Meaning.{CloudMeaning}
use Rattle.cloud.specs.Outcomes.{over}
use Rattle.row.specs.Rows.{no_cloud}
use Rattle.protocol.specs.declared.answers.CommitOutcome.TheVariants.{Committed}
use Rattle.protocol.specs.declared.answers.Listed.{Listed}
use Rattle.protocol.specs.Slots.{idle}
use Rattle.protocol.specs.State.{Setting, State}
use Rattle.protocol.specs.Listing.{listing}
use Rattle.protocol.specs.Events.{Event, committed, tried, listed}
use Rattle.protocol.specs.Steps.{Step}
use Rattle.history.specs.Deeds.{Deed, History, Kind, completes, commits_save, deed, latest, begins, Change, saved, erased, commits, stored_at, asks, looks, runs, value_of}

-- ---- runs

-- A run of calls that goes on after the history h₀, from the state s: what has come of all calls, and the state.
pub data Run (S : Setting) (h₀ : History) (s : State) : History → State → Type 0 where
  start : Run S h₀ s h₀ s
  then : {h : History} {t u : State} → Run S h₀ s h t → (e : Event) → Step S t e u → Run S h₀ s (deed e ∷ h) u

-- a Locker just opened over an empty directory
pub record OpenedEmpty (S : Setting) (s : State) : Type 0 where
  pub empty : s.directory.entries ≡ []
  pub idles : s.slots ≡ replicate 16 idle
  pub counted : S.clouds ≡ length s.clouds

abbrev pub IsSome : {A : Type 0} → Option A → Type 0
IsSome None = ⊥
IsSome (Some a) = Unit {0}

-- some deed of the run is of the kind
abbrev pub SomeIn : {A : Type 0} {S : Setting} {h₀ : History} {s : State} {h : History} {t : State} → Kind A → Run S h₀ s h t → Type 0
SomeIn kind start = ⊥
SomeIn kind (then {h = h} r e step) = IsSome (kind (deed e) h) ⊎ SomeIn kind r

-- no deed of the run is of the kind
abbrev pub NoneIn : {A : Type 0} {S : Setting} {h₀ : History} {s : State} {h : History} {t : State} → Kind A → Run S h₀ s h t → Type 0
NoneIn kind start = Unit {0}
NoneIn kind (then {h = h} r e step) = (kind (deed e) h ≡ None) × NoneIn kind r

-- ---- A fetch answers the latest save.

-- the value was begun, stored or answered
pub data Named (v : List ℕ) : History → Type 0 where
  here : {d : Deed} {h : History} → value_of d ≡ Some v → Named v (d ∷ h)
  before : {d : Deed} {h : History} → Named v h → Named v (d ∷ h)

-- no two different values of the history share length and digest
abbrev pub NoCollision : Setting → History → Type 0
NoCollision S h = (v w : List ℕ) → Named v h → Named w h → length v ≡ length w → S.digested v ≡ S.digested w → v ≡ w

-- The fetch of p, which a try completes with these bytes after the history h: when it last looked, the latest commit
-- to its key was a save, and these are its bytes, if no two different values share length and digest.
pub record AnswersTheLatestSave (S : Setting) (h : History) (p i : ℕ) (bytes : List ℕ) : Type 0 where
  pub container : ℕ
  pub key : List ℕ
  pub value : List ℕ
  pub before_look : History
  pub asked : latest (asks p) h ≡ Some (container, key)
  pub looked : latest (looks p) h ≡ Some before_look
  pub was_saved : latest (commits container key) before_look ≡ Some (saved value)
  pub same_size : length bytes ≡ length value
  pub same : NoCollision S (completes p i bytes ∷ h) → bytes ≡ value

-- Promise: where a fetch completes, the latest commit to its key before it last looked was a save, and the fetch answers that save's bytes.
abbrev pub CompletedFetchesAnswerTheLatestSave : Setting → State → Type 0
CompletedFetchesAnswerTheLatestSave S s =
    (h : History) (t : State) → Run S [] s h t → (p i n : ℕ) (buffer buffer' : List ℕ) (u : State) → Step S t (tried p i buffer buffer' (Ok n)) u
    → (n ≡ length (take n buffer')) × AnswersTheLatestSave S h p i (take n buffer')

-- ---- A committed save can be fetched.

abbrev pub Different : List ℕ → Type 0
Different [] = Unit {0}
Different (i ∷ is) = (Memᴰ i is → ⊥) × Different is

-- at most so many clouds are unsound: different unsound clouds are never more
abbrev pub AtMostUnsound : ℕ → List CloudMeaning → Type 0
AtMostUnsound f ms =
    (is : List ℕ) → Different is → ((i : ℕ) → Memᴰ i is → (i < length ms) × ((slice_index_or ms i no_cloud).sound ≡ false)) → length is ≤ f

-- The save that p commits after the history h: one cloud of its list completes every fetch of its key that last looked
-- after the save and tries the cloud before the next commit to the key, where the buffer suffices.
pub record CanBeFetched (S : Setting) (h : History) (p : ℕ) (u : State) : Type 0 where
  pub container : ℕ
  pub key : List ℕ
  pub value : List ℕ
  pub begun : latest (begins p) h ≡ Some (container, key, value)
  pub cloud : ℕ
  pub listed_cloud : latest (stored_at p cloud) h ≡ Some true
  pub serves : (l : History) (w : State) (later : Run S (commits_save p ∷ h) u l w) → NoneIn (commits container key) later
      → (q : ℕ) → SomeIn (looks q) later → latest (asks q) l ≡ Some (container, key) → latest (runs q) l ≡ Some true
      → (buffer buffer' : List ℕ) (r : Result ℕ Refusal) (z : State) → length value ≤ length buffer
      → Step S w (tried q cloud buffer buffer' r) z → r ≡ Ok (length value)

-- Promise: with at most f clouds unsound at opening, each committed save can be fetched from one cloud of its list.
abbrev pub CommittedSavesCanBeFetched : Setting → State → Type 0
CommittedSavesCanBeFetched S s =
    AtMostUnsound S.faults s.clouds
    → (h : History) (t : State) → Run S [] s h t → (p : ℕ) (u : State) → Step S t (committed p (Ok Committed)) u → CanBeFetched S h p u

-- ---- A listing names the keys that are saved.

abbrev pub IsSaved : Option Change → Type 0
IsSaved None = ⊥
IsSaved (Some (saved v)) = Unit {0}
IsSaved (Some erased) = ⊥

abbrev pub Ascends : List (List ℕ) → Type 0
Ascends [] = Unit {0}
Ascends (k ∷ ks) = ((j : List ℕ) → Memᴰ j ks → below k j ≡ true) × Ascends ks

pub record NamesTheSavedKeys (h : History) (c : ℕ) (buffer buffer' : List ℕ) (answer : Listed) : Type 0 where
  pub keys : List (List ℕ)
  pub ascending : Ascends keys
  pub exactly : (k : List ℕ) → Memᴰ k keys ↔ IsSaved (latest (commits c k) h)
  pub counted : answer.count ≡ length keys
  pub length_told : answer.bytes ≡ length (listing keys)
  pub written : buffer' ≡ over (listing keys) buffer

-- Promise: a listing that completes names, ascending and once each, exactly the keys of its container whose latest commit was a save, and answers their number.
abbrev pub ListingsNameExactlyTheSavedKeys : Setting → State → Type 0
ListingsNameExactlyTheSavedKeys S s =
    (h : History) (t : State) → Run S [] s h t → (c : ℕ) (buffer buffer' : List ℕ) (answer : Listed) (u : State)
    → Step S t (listed c buffer buffer' (Ok answer)) u → NamesTheSavedKeys h c buffer buffer' answer

-- ---- all three

pub record Promises (S : Setting) (s : State) : Type 0 where
  pub fetches : CompletedFetchesAnswerTheLatestSave S s
  pub saves : CommittedSavesCanBeFetched S s
  pub listings : ListingsNameExactlyTheSavedKeys S s

-- Theorem: a Locker that was opened over an empty directory keeps the promises, whatever calls come, in any order and number.
abbrev pub AnOpenedLockerKeepsItsPromises : Type 0
AnOpenedLockerKeepsItsPromises = (S : Setting) (s : State) → OpenedEmpty S s → Promises S s
