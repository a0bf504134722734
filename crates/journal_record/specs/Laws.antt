-- What reading and writing have to do with each other.
use Rattle.std.specs.Prelude.{◌≡◌, ℕ, List, ◌++◌, Some}
use Rattle.journal_record.specs.Records.{RecordValue, ValidRecord}
use Rattle.journal_record.specs.Layout.{encode}
use Rattle.journal_record.specs.Parse.{parse}

-- Theorem: every record that is written reads back as itself, whatever follows it.
abbrev pub RecordsReadBack : Type 0
RecordsReadBack = (r : RecordValue) (rest : List ℕ) → ValidRecord r → parse (encode r ++ rest) ≡ Some (r, rest)

-- Theorem: whatever is read is exactly the bytes that writing it gives.
abbrev pub OnlyRecordsAreRead : Type 0
OnlyRecordsAreRead = (xs : List ℕ) (r : RecordValue) (rest : List ℕ) → parse xs ≡ Some (r, rest) → ValidRecord r × (xs ≡ encode r ++ rest)
