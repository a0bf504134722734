-- Histories: what came of each call, and what the latest deed of a kind was.
use Rattle.std.specs.Prelude.{ℕ, Bool, true, false, cond, ◌&&◌, List, [], ◌∷◌, take, Some, None, Ok, Err, Option, ◌==◌}
use Rattle.std.specs.Str.{bytes_eq}
use Rattle.refusal.specs.Numbers.{refusal_number}
use Rattle.directory.specs.Meaning.{address}
use Rattle.protocol.specs.declared.answers.CommitOutcome.TheVariants.{Committed, Passed}
use Rattle.protocol.specs.Events.{Event, began_save, stored, committed, deleted, began_fetch, tried, looked_again, began_sweep, swept, left, listed}

-- What came of a call, by a party p, as far as the promises speak of it.
pub data Deed : Type 0 where
  -- the call was refused, or did nothing of what follows
  nothing : Deed
  -- a save was begun
  began : (p container : ℕ) (key value : List ℕ) → Deed
  -- a cloud acknowledged the value that is being saved
  stores : (p cloud : ℕ) (value : List ℕ) → Deed
  -- the save was committed
  commits_save : (p : ℕ) → Deed
  -- the key was deleted
  deletes : (p container : ℕ) (key : List ℕ) → Deed
  -- a fetch was begun: it looked for the first time
  looks_first : (p container : ℕ) (key : List ℕ) → Deed
  -- the fetch looked again
  looks_on : (p : ℕ) → Deed
  -- a try completed the fetch with this value
  completes : (p cloud : ℕ) (value : List ℕ) → Deed
  -- what the party was doing is over: it left, or looked again and found no value
  ends : (p : ℕ) → Deed

abbrev pub deed : Event → Deed
deed (began_save p c k v (Ok stamp)) = began p c k v
deed (began_save p c k v (Err e)) = nothing
deed (stored p i v (Ok n)) = stores p i v
deed (stored p i v (Err e)) = nothing
deed (committed p (Ok Committed)) = commits_save p
deed (committed p (Ok Passed)) = nothing
deed (committed p (Err e)) = nothing
deed (deleted p c k (Ok stamp)) = deletes p c k
deed (deleted p c k (Err e)) = nothing
deed (began_fetch p c k (Ok found)) = looks_first p c k
deed (began_fetch p c k (Err e)) = nothing
deed (tried p i buffer buffer' (Ok n)) = completes p i (take n buffer')
deed (tried p i buffer buffer' (Err e)) = nothing
deed (looked_again p (Ok found)) = looks_on p
-- 14: the key has no live entry
deed (looked_again p (Err e)) = cond (refusal_number e == 14) (ends p) nothing
deed (began_sweep p c k r) = nothing
deed (swept p i r) = nothing
deed (left p (Ok t)) = ends p
deed (left p (Err e)) = nothing
deed (listed c buffer buffer' r) = nothing

-- the newest first
abbrev pub History : Type 0
History = List Deed

-- A kind of deeds: what a deed says, after the history before it, if it is of the kind.
abbrev pub Kind : Type 0 → Type 0
Kind A = Deed → History → Option A

abbrev pub or_else : {A : Type 0} → Option A → Option A → Option A
or_else None o = o
or_else (Some a) o = Some a

-- what the latest deed of a kind says
abbrev pub latest : {A : Type 0} → Kind A → History → Option A
latest kind [] = None
latest kind (d ∷ h) = or_else (kind d h) (latest kind h)

abbrev pub when : {A : Type 0} → Bool → A → Option A
when b a = cond b (Some a) None

-- the party begins to save a value under a key of a container
abbrev pub begins : ℕ → Kind (ℕ × List ℕ × List ℕ)
begins p nothing h = None
begins p (began q c k v) h = when (q == p) (c, k, v)
begins p (stores q i v) h = None
begins p (commits_save q) h = None
begins p (deletes q c k) h = None
begins p (looks_first q c k) h = None
begins p (looks_on q) h = None
begins p (completes q i v) h = None
begins p (ends q) h = None

-- What a commit makes of a key.
pub data Change : Type 0 where
  saved : List ℕ → Change
  erased : Change

-- one key means one container and key
abbrev pub same_key : ℕ → List ℕ → ℕ → List ℕ → Bool
same_key c k c' k' = bytes_eq (address c k) (address c' k')

abbrev pub saved_at : ℕ → List ℕ → Option (ℕ × List ℕ × List ℕ) → Option Change
saved_at c k None = None
saved_at c k (Some b) = when (same_key b.0 b.1 c k) (saved b.2)

-- A commit to a key: a save that is committed has the key and the value that its party last began with; or the key is deleted.
abbrev pub commits : ℕ → List ℕ → Kind Change
commits c k nothing h = None
commits c k (began q c' k' v) h = None
commits c k (stores q i v) h = None
commits c k (commits_save q) h = saved_at c k (latest (begins q) h)
commits c k (deletes q c' k') h = when (same_key c' k' c k) erased
commits c k (looks_first q c' k') h = None
commits c k (looks_on q) h = None
commits c k (completes q i v) h = None
commits c k (ends q) h = None

-- Whether a cloud is in the list of the party's save: yes from an accepted store at it, no from the begin of a save.
abbrev pub stored_at : ℕ → ℕ → Kind Bool
stored_at p i nothing h = None
stored_at p i (began q c k v) h = when (q == p) false
stored_at p i (stores q j v) h = when (q == p && j == i) true
stored_at p i (commits_save q) h = None
stored_at p i (deletes q c k) h = None
stored_at p i (looks_first q c k) h = None
stored_at p i (looks_on q) h = None
stored_at p i (completes q j v) h = None
stored_at p i (ends q) h = None

-- the party begins to fetch a key of a container
abbrev pub asks : ℕ → Kind (ℕ × List ℕ)
asks p nothing h = None
asks p (began q c k v) h = None
asks p (stores q i v) h = None
asks p (commits_save q) h = None
asks p (deletes q c k) h = None
asks p (looks_first q c k) h = when (q == p) (c, k)
asks p (looks_on q) h = None
asks p (completes q i v) h = None
asks p (ends q) h = None

-- the party's fetch looks: the history before that look
abbrev pub looks : ℕ → Kind History
looks p nothing h = None
looks p (began q c k v) h = None
looks p (stores q i v) h = None
looks p (commits_save q) h = None
looks p (deletes q c k) h = None
looks p (looks_first q c k) h = when (q == p) h
looks p (looks_on q) h = when (q == p) h
looks p (completes q i v) h = None
looks p (ends q) h = None

-- whether a fetch of the party runs: yes from its begin, no from its end
abbrev pub runs : ℕ → Kind Bool
runs p nothing h = None
runs p (began q c k v) h = None
runs p (stores q i v) h = None
runs p (commits_save q) h = None
runs p (deletes q c k) h = None
runs p (looks_first q c k) h = when (q == p) true
runs p (looks_on q) h = None
runs p (completes q i v) h = when (q == p) false
runs p (ends q) h = when (q == p) false

-- the value that a deed gives or answers
abbrev pub value_of : Deed → Option (List ℕ)
value_of nothing = None
value_of (began q c k v) = Some v
value_of (stores q i v) = Some v
value_of (commits_save q) = None
value_of (deletes q c k) = None
value_of (looks_first q c k) = None
value_of (looks_on q) = None
value_of (completes q i v) = Some v
value_of (ends q) = None
