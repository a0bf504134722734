-- What opening a journal answers.
use Rattle.std.specs.Prelude.{◌≡◌, ℕ, ◌+◌, ◌*◌, ◌≤◌, Bool, cond, ◌&&◌, List, length, Ok, Err, vec_items, vec_capacity, Result, Vec, nat_le}
use Rattle.std.specs.declared.alloc.Global.{Global}
use Rattle.refusal.specs.declared.Refusal.{Refusal}
use Rattle.refusal.specs.declared.Refusal.TheVariants.{UnsupportedStorage, CorruptJournal}
use Rattle.refusal.specs.declared.Rejected.{Rejected}
use Rattle.directory.specs.Meaning.{DirectoryMeaning}
use Rattle.directory_table.specs.Making.{supported}
use Rattle.journal_record.specs.Layout.{longest_record}
use Rattle.directory_journal.specs.declared.journal.Journal.{Journal}
use Rattle.directory_journal.specs.declared.memory.JournalMemory.{JournalMemory}
use Rattle.directory_journal.specs.Replay.{replay}
use Rattle.directory_journal.specs.Meaning.{journal_meaning, journal_bytes}

-- 1 to 64 places, room for them in the index, and bytes for a record of each and one more
abbrev pub can_open : ℕ → ℕ → List ℕ → Bool
can_open places room bytes = supported places room && nat_le ((places + 1) * longest_record) (length bytes)

abbrev pub meaning_in : Result (DirectoryMeaning × ℕ) ℕ → Result DirectoryMeaning Refusal
meaning_in (Ok p) = Ok p.0
meaning_in (Err offset) = Err (CorruptJournal offset)

-- the directory that the bytes say, or the ground of refusal
unfoldable pub opened : ℕ → ℕ → List ℕ → Result DirectoryMeaning Refusal
opened places room bytes = cond (can_open places room bytes) (meaning_in (replay places bytes)) (Err UnsupportedStorage)

-- Refused, the bytes come back as they were, and the index with room for as many places as before, if it was for those
-- that were asked for.
abbrev pub Opens : JournalMemory → ℕ → Result Journal (Rejected JournalMemory) → Type 0
Opens memory places (Ok journal) =
    (opened places (vec_capacity memory.index) (vec_items memory.bytes) ≡ Ok (journal_meaning journal))
    × (journal_bytes journal ≡ vec_items memory.bytes)
Opens memory places (Err rejected) =
    (opened places (vec_capacity memory.index) (vec_items memory.bytes) ≡ Err rejected.refusal)
    × (rejected.given.bytes ≡ memory.bytes)
    × (places ≤ vec_capacity memory.index → places ≤ vec_capacity rejected.given.index)

-- The same where storage is supported.
abbrev pub OpensWith : Vec ℕ Global → ℕ → Result Journal (Rejected JournalMemory) → Type 0
OpensWith bytes places (Ok journal) =
    (meaning_in (replay places (vec_items bytes)) ≡ Ok (journal_meaning journal)) × (journal_bytes journal ≡ vec_items bytes)
OpensWith bytes places (Err rejected) =
    (meaning_in (replay places (vec_items bytes)) ≡ Err rejected.refusal) × (rejected.given.bytes ≡ bytes)
    × (places ≤ vec_capacity rejected.given.index)
