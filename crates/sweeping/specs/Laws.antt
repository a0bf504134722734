-- What a sweep does at a sound cloud.
use Rattle.std.specs.Prelude.{◌≡◌, ℕ, ◌+◌, ◌<◌, true, List, length, get_or, None, Ok, Result, slice_index_or, slice_set}
use Rattle.refusal.specs.declared.Cause.{Cause}
use Rattle.bytemap.specs.Map.{find, Ascending}
use Rattle.naming.specs.Stamps.{StampValue, ValidStamp, no_stamp, stamp_below}
use Rattle.naming.specs.Names.{name_of}
use Rattle.cloud.specs.Meaning.{CloudMeaning, WithinLimits}
use Rattle.row.specs.Rows.{no_cloud}
use Rattle.protocol.specs.Slots.{SweepingValue}
use Rattle.protocol.specs.Steps.{next_at, drop_at}
use Rattle.protocol.specs.Sweeping.{Swept}

-- The name of an older write of exactly this key: of a stamp below that of the sweep. (No write has the stamp (0, 0).)
pub record OldName (x : SweepingValue) (n : List ℕ) : Type 0 where
  pub stamp : StampValue
  pub valid : ValidStamp stamp
  pub name : n ≡ name_of x.container x.key stamp
  pub written : stamp_below no_stamp stamp ≡ true
  pub older : stamp_below stamp x.stamp ≡ true

-- The cloud m held so many old names, and m' is this cloud without them: they are not found, all others as before.
pub record FreedOfOldNames (x : SweepingValue) (m : CloudMeaning) (many : ℕ) (m' : CloudMeaning) : Type 0 where
  pub sound : m'.sound ≡ true
  pub ascending : Ascending m'.held
  pub gone : (n : List ℕ) → OldName x n → find m'.held n ≡ None
  pub others : (n : List ℕ) → (OldName x n → ⊥) → find m'.held n ≡ find m.held n
  pub count : length m'.held + many ≡ length m.held
  pub free : m'.free ≡ m.free + many

-- Theorem: a sweep of a sound cloud is not refused, frees it of exactly the old names, answers how many these were,
-- and leaves the row's other clouds.
abbrev pub ASoundCloudIsFreedOfOldNames : Type 0
ASoundCloudIsFreedOfOldNames =
    (x : SweepingValue) (i : ℕ) (ms ms' : List CloudMeaning) (r : Result ℕ Cause) → i < length ms → (get_or ms i no_cloud).sound ≡ true → WithinLimits (slice_index_or ms i no_cloud)
    → Swept (next_at i) (drop_at i) x ms ms' r
    → (many : ℕ) × (r ≡ Ok many) × FreedOfOldNames x (slice_index_or ms i no_cloud) many (slice_index_or ms' i no_cloud) × (ms' ≡ slice_set ms i (slice_index_or ms' i no_cloud))
