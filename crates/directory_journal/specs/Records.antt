-- Records one after another.
use Rattle.std.specs.Prelude.{◌≡◌, ℕ, ◌+◌, ◌<◌, ◌≤◌, true, cond, List, [], ◌∷◌, ◌++◌, map, length, take, drop, Some, None, Option, nat_le}
use Rattle.directory.specs.Meaning.{DirectoryMeaning}
use Rattle.directory_table.specs.declared.keyed_entry.KeyedEntry.{KeyedEntry}
use Rattle.directory_table.specs.Entries.{container_of, key_of, value_of}
use Rattle.journal_record.specs.Records.{RecordValue, ValidRecord}
use Rattle.journal_record.specs.Layout.{encode}
use Rattle.directory_journal.specs.Replay.{accepts, after_record, ended}

-- the record of an entry
abbrev pub record_of : KeyedEntry → RecordValue
record_of x = record { container = container_of x; key = key_of x; entry = value_of x }

abbrev pub records_of : List KeyedEntry → List RecordValue
records_of xs = map record_of xs

unfoldable pub all_encoded : List RecordValue → List ℕ
all_encoded [] = []
all_encoded (r ∷ rs) = encode r ++ all_encoded rs

-- each is valid, and accepted after those before it
abbrev pub AllAccepted : DirectoryMeaning → List RecordValue → Type 0
AllAccepted m [] = Unit {0}
AllAccepted m (r ∷ rs) = ValidRecord r × (accepts m r ≡ true) × AllAccepted (after_record m r) rs

abbrev pub after_records : DirectoryMeaning → List RecordValue → DirectoryMeaning
after_records m [] = m
after_records m (r ∷ rs) = after_records (after_record m r) rs

-- A record was appended to the first `used` bytes, where there was room for it.
abbrev pub Appended : List ℕ → ℕ → RecordValue → Option ℕ → List ℕ → Type 0
Appended bytes used r None bytes' = (length bytes < used + length (encode r)) × (bytes' ≡ bytes)
Appended bytes used r (Some end) bytes' =
    (end ≡ used + length (encode r)) × (end ≤ length bytes) × (take end bytes' ≡ take used bytes ++ encode r)
    × (length bytes' ≡ length bytes)

-- what the records are after one more: with it behind them, or, where there is no room, those of the last entries
abbrev pub stored_bytes : List ℕ → ℕ → RecordValue → List RecordValue → List ℕ
stored_bytes bytes used r last = cond (nat_le (used + length (encode r)) (length bytes)) (take used bytes ++ encode r) (all_encoded last)

-- The records end at `end`, and no record follows.
pub record Stored (bytes : List ℕ) (used : ℕ) (r : RecordValue) (last : List RecordValue) (end : ℕ) (bytes' : List ℕ) : Type 0 where
  pub records : take end bytes' ≡ stored_bytes bytes used r last
  pub marked : ended (drop end bytes') ≡ true
  pub within : end ≤ length bytes'
  pub size : length bytes' ≡ length bytes
