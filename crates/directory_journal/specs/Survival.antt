-- What opening a journal's bytes again gives.
use Rattle.std.specs.Prelude.{◌≡◌, ℕ, ◌≤◌, List, Ok}
use Rattle.journal_record.specs.Records.{RecordValue}
use Rattle.directory_journal.specs.declared.journal.Journal.{Journal}
use Rattle.directory_journal.specs.Records.{after_records}
use Rattle.directory_journal.specs.Meaning.{journal_meaning, journal_bytes, journal_places}
use Rattle.directory_journal.specs.Opening.{opened}

-- Theorem: where any commits, also refused ones, have led from one journal to another, the bytes of the other, opened
-- with as many places and memory for their index, are a directory of the same meaning.
abbrev pub CommitsSurvive : Type 0
CommitsSurvive =
    (before after : Journal) (commits : List RecordValue) → journal_meaning after ≡ after_records (journal_meaning before) commits
    → (room : ℕ) → journal_places before ≤ room
    → opened (journal_places before) room (journal_bytes after) ≡ Ok (after_records (journal_meaning before) commits)
