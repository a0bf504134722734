-- What a replay has to do with the records in the bytes.
use Rattle.std.specs.Prelude.{◌≡◌, ℕ, ◌+◌, true, cond, List, [], ◌∷◌, ◌++◌, length, Some, None, Ok, Option}
use Rattle.std.specs.Str.{bytes_eq}
use Rattle.bytemap.specs.Map.{find}
use Rattle.entry.specs.Entries.{EntryValue}
use Rattle.directory.specs.Meaning.{DirectoryMeaning, address}
use Rattle.journal_record.specs.Records.{RecordValue}
use Rattle.directory_journal.specs.Replay.{empty_directory, ended, replay}
use Rattle.directory_journal.specs.Records.{all_encoded, AllAccepted, after_records}

-- From the directory m on, the bytes at this offset are records that are accepted in turn and end at `end`, and no record
-- follows.
pub record HoldsRecords (m : DirectoryMeaning) (offset : ℕ) (bytes : List ℕ) (after : DirectoryMeaning) (end : ℕ) : Type 0 where
  pub records : List RecordValue
  pub rest : List ℕ
  pub split : bytes ≡ all_encoded records ++ rest
  pub stops : ended rest ≡ true
  pub accepting : AllAccepted m records
  pub after_is : after ≡ after_records m records
  pub end_is : end ≡ offset + length (all_encoded records)

-- Theorem: records that are accepted in turn are a journal, whatever lies behind its end.
abbrev pub RecordsMakeAJournal : Type 0
RecordsMakeAJournal =
    (places : ℕ) (rs : List RecordValue) (rest : List ℕ) → AllAccepted (empty_directory places) rs → ended rest ≡ true
    → replay places (all_encoded rs ++ rest) ≡ Ok (after_records (empty_directory places) rs, length (all_encoded rs))

-- Theorem: a journal is nothing else.
abbrev pub JournalsAreRecords : Type 0
JournalsAreRecords =
    (places : ℕ) (bytes : List ℕ) (m : DirectoryMeaning) (end : ℕ) → replay places bytes ≡ Ok (m, end)
    → HoldsRecords (empty_directory places) 0 bytes m end

-- the entry in the last of these records that is of the address, or else the one given
abbrev pub last_entry : List RecordValue → List ℕ → Option EntryValue → Option EntryValue
last_entry [] a e = e
last_entry (r ∷ rs) a e = last_entry rs a (cond (bytes_eq (address r.container r.key) a) (Some r.entry) e)

-- Theorem: each key's last record counts.
abbrev pub LastRecordsCount : Type 0
LastRecordsCount =
    (places : ℕ) (rs : List RecordValue) → AllAccepted (empty_directory places) rs
    → (a : List ℕ) → find (after_records (empty_directory places) rs).entries a ≡ last_entry rs a None

abbrev pub JournalLaws : Type 0
JournalLaws = RecordsMakeAJournal × JournalsAreRecords × LastRecordsCount
