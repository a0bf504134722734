-- The grounds on which a call is refused, as one table in the order in which they are checked. A ground that does not
-- concern a call never holds of it. What a cloud answers comes after all of these.
use Rattle.std.specs.Prelude.{ℕ, Bool, true, false, cond, not, ◌&&◌, ◌||◌, ltb, leb, List, [], ◌∷◌, ◌++◌, length, Some, None, Ok, Err, Option, ◌==◌, nat_le, nat_lt}
use Rattle.std.specs.Str.{bytes_eq}
use Rattle.refusal.specs.declared.Refusal.{Refusal}
use Rattle.refusal.specs.declared.Refusal.TheVariants.{UnknownParty, InvalidKey, ValueTooLong, UnknownCloud, SlotBusy, SlotNotReady, DifferentValue, AlreadyStored, TooFewStored, CloudNotListed, NoEntry, SequenceExhausted, DirectoryFull, BufferTooShort}
use Rattle.naming.specs.Text.{valid_key}
use Rattle.naming.specs.Limits.{greatest_sequence}
use Rattle.entry.specs.Entries.{EntryValue, LiveValue}
use Rattle.directory.specs.declared.interface.CommitError.TheVariants.{Older, Full}
use Rattle.directory.specs.Calls.{Answer, entry_of, stamp_of, commit_answer}
use Rattle.cloud.specs.Meaning.{longest_value}
use Rattle.entry.specs.Clouds.{lists, count}
use Rattle.protocol.specs.Slots.{SavingValue, FetchingValue, is_idle, is_saving, is_fetching, is_sweeping, of_saving, of_fetching}
use Rattle.protocol.specs.State.{Setting, State, valid_party, slot_of}
use Rattle.protocol.specs.Listing.{keys_of, listing}
use Rattle.protocol.specs.Calls.{Call, begin_save, store, commit, delete, begin_fetch, try_cloud, look_again, begin_sweep, sweep, leave, list, has, party_of, key_of, value_of, cloud_of}

-- ---- what the slot is doing

-- a call that begins something needs an idle slot
abbrev pub is_busy : Call → State → Bool
is_busy (begin_save p c k v) s = not (is_idle (slot_of s p))
is_busy (store p i v) s = false
is_busy (commit p) s = false
is_busy (delete p c k) s = not (is_idle (slot_of s p))
is_busy (begin_fetch p c k) s = not (is_idle (slot_of s p))
is_busy (try_cloud p i b) s = false
is_busy (look_again p) s = false
is_busy (begin_sweep p c k) s = not (is_idle (slot_of s p))
is_busy (sweep p i) s = false
is_busy (leave p) s = false
is_busy (list c b) s = false

-- a call that goes on with something needs a slot that is doing it
abbrev pub is_not_ready : Call → State → Bool
is_not_ready (begin_save p c k v) s = false
is_not_ready (store p i v) s = not (is_saving (slot_of s p))
is_not_ready (commit p) s = not (is_saving (slot_of s p))
is_not_ready (delete p c k) s = false
is_not_ready (begin_fetch p c k) s = false
is_not_ready (try_cloud p i b) s = not (is_fetching (slot_of s p))
is_not_ready (look_again p) s = not (is_fetching (slot_of s p))
is_not_ready (begin_sweep p c k) s = false
is_not_ready (sweep p i) s = not (is_sweeping (slot_of s p))
is_not_ready (leave p) s = is_idle (slot_of s p)
is_not_ready (list c b) s = false

-- the value has the size and the digest that were begun
abbrev pub is_begun_value : Setting → List ℕ → SavingValue → Bool
is_begun_value S v x = length v == x.size && bytes_eq x.digest (S.digested v)

-- a test of what the slot of a store is saving
abbrev pub of_store : Call → State → (ℕ → List ℕ → SavingValue → Bool) → Bool
of_store (begin_save p c k v) s t = false
of_store (store p i v) s t = of_saving (slot_of s p) (t i v)
of_store (commit p) s t = false
of_store (delete p c k) s t = false
of_store (begin_fetch p c k) s t = false
of_store (try_cloud p i b) s t = false
of_store (look_again p) s t = false
of_store (begin_sweep p c k) s t = false
of_store (sweep p i) s t = false
of_store (leave p) s t = false
of_store (list c b) s t = false

-- a test of what the slot of a commit is saving
abbrev pub of_commit : Call → State → (SavingValue → Bool) → Bool
of_commit (begin_save p c k v) s t = false
of_commit (store p i v) s t = false
of_commit (commit p) s t = of_saving (slot_of s p) t
of_commit (delete p c k) s t = false
of_commit (begin_fetch p c k) s t = false
of_commit (try_cloud p i b) s t = false
of_commit (look_again p) s t = false
of_commit (begin_sweep p c k) s t = false
of_commit (sweep p i) s t = false
of_commit (leave p) s t = false
of_commit (list c b) s t = false

-- a test of what the slot of a try is fetching
abbrev pub of_try : Call → State → (ℕ → List ℕ → FetchingValue → Bool) → Bool
of_try (begin_save p c k v) s t = false
of_try (store p i v) s t = false
of_try (commit p) s t = false
of_try (delete p c k) s t = false
of_try (begin_fetch p c k) s t = false
of_try (try_cloud p i b) s t = of_fetching (slot_of s p) (t i b)
of_try (look_again p) s t = false
of_try (begin_sweep p c k) s t = false
of_try (sweep p i) s t = false
of_try (leave p) s t = false
of_try (list c b) s t = false

-- ---- what the directory has

abbrev pub is_there : {X : Type 0} → Option X → Bool
is_there None = false
is_there (Some x) = true

abbrev pub live_of : Option EntryValue → Option LiveValue
live_of None = None
live_of (Some e) = e.live

abbrev pub has_no_live : State → ℕ → List ℕ → Bool
has_no_live s c k = not (is_there (live_of (entry_of s.directory c k)))

-- the entry that the call needs is not there: a live one, or for a sweep any
abbrev pub has_no_entry : Call → State → Bool
has_no_entry (begin_save p c k v) s = false
has_no_entry (store p i v) s = false
has_no_entry (commit p) s = false
has_no_entry (delete p c k) s = has_no_live s c k
has_no_entry (begin_fetch p c k) s = has_no_live s c k
has_no_entry (try_cloud p i b) s = false
has_no_entry (look_again p) s = of_fetching (slot_of s p) (λ x. has_no_live s x.container x.key)
has_no_entry (begin_sweep p c k) s = not (is_there (entry_of s.directory c k))
has_no_entry (sweep p i) s = false
has_no_entry (leave p) s = false
has_no_entry (list c b) s = false

abbrev pub is_last_sequence : State → ℕ → List ℕ → Bool
is_last_sequence s c k = nat_le greatest_sequence (stamp_of (entry_of s.directory c k)).sequence

-- a call that takes a new stamp finds the sequence at its greatest
abbrev pub has_no_next : Call → State → Bool
has_no_next (begin_save p c k v) s = is_last_sequence s c k
has_no_next (store p i v) s = false
has_no_next (commit p) s = false
has_no_next (delete p c k) s = is_last_sequence s c k
has_no_next (begin_fetch p c k) s = false
has_no_next (try_cloud p i b) s = false
has_no_next (look_again p) s = false
has_no_next (begin_sweep p c k) s = false
has_no_next (sweep p i) s = false
has_no_next (leave p) s = false
has_no_next (list c b) s = false

-- the entry that a commit sets
abbrev pub saved_entry : SavingValue → EntryValue
saved_entry x = record { stamp = x.stamp; live = Some (record { clouds = x.stored; size = x.size; digest = x.digest }) }

abbrev pub is_full : Answer → Bool
is_full (Ok t) = false
is_full (Err Older) = false
is_full (Err Full) = true

-- ---- what there is room for

abbrev pub is_short_listing : Call → State → Bool
is_short_listing (begin_save p c k v) s = false
is_short_listing (store p i v) s = false
is_short_listing (commit p) s = false
is_short_listing (delete p c k) s = false
is_short_listing (begin_fetch p c k) s = false
is_short_listing (try_cloud p i b) s = false
is_short_listing (look_again p) s = false
is_short_listing (begin_sweep p c k) s = false
is_short_listing (sweep p i) s = false
is_short_listing (leave p) s = false
is_short_listing (list c b) s = nat_lt (length b) (length (listing (keys_of s.directory c)))

-- ---- the table

-- a ground: the refusal, and when it holds
abbrev pub Ground : Type 0
Ground = Refusal × (Setting → Call → State → Bool)

abbrev pub caller_grounds : List Ground
caller_grounds =
    (UnknownParty, λ S c s. has (party_of c) (λ p. not (valid_party p)))
    ∷ (InvalidKey, λ S c s. has (key_of c) (λ k. not (valid_key k)))
    ∷ (ValueTooLong, λ S c s. has (value_of c) (λ v. ltb longest_value (length v)))
    ∷ (UnknownCloud, λ S c s. has (cloud_of c) (λ i. leb S.clouds i))
    ∷ []

abbrev pub slot_grounds : List Ground
slot_grounds =
    (SlotBusy, λ S c s. is_busy c s)
    ∷ (SlotNotReady, λ S c s. is_not_ready c s)
    ∷ (DifferentValue, λ S c s. of_store c s (λ i v x. not (is_begun_value S v x)))
    ∷ (AlreadyStored, λ S c s. of_store c s (λ i v x. lists x.stored i || nat_lt S.faults (count x.stored)))
    ∷ (TooFewStored, λ S c s. of_commit c s (λ x. leb (count x.stored) S.faults))
    ∷ (CloudNotListed, λ S c s. of_try c s (λ i b x. not (lists x.live.clouds i)))
    ∷ []

abbrev pub directory_grounds : List Ground
directory_grounds =
    (NoEntry, λ S c s. has_no_entry c s)
    ∷ (SequenceExhausted, λ S c s. has_no_next c s)
    ∷ (DirectoryFull, λ S c s. of_commit c s (λ x. is_full (commit_answer s.directory x.container x.key (saved_entry x))))
    ∷ []

abbrev pub buffer_grounds : List Ground
buffer_grounds =
    (BufferTooShort, λ S c s. of_try c s (λ i b x. ltb (length b) x.live.size) || is_short_listing c s)
    ∷ []

-- the first ground that holds
abbrev pub first_of : List Ground → Setting → Call → State → Option Refusal
first_of [] S c s = None
first_of (g ∷ gs) S c s = cond (g.1 S c s) (Some g.0) (first_of gs S c s)

abbrev pub first_ground : Setting → Call → State → Option Refusal
first_ground S c s = first_of (caller_grounds ++ (slot_grounds ++ (directory_grounds ++ buffer_grounds))) S c s
