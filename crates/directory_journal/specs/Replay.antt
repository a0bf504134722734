-- What the bytes of a journal say: records from the start until a 0 byte or the end, each of which a directory with so
-- many places would commit. So the stamps of one key rise, and there are no more keys than places.
use Rattle.std.specs.Prelude.{ℕ, zero, suc, ◌-◌, Bool, true, cond, is_ok, List, [], ◌∷◌, Some, None, Ok, Err, Option, Result, ◌==◌}
use Rattle.directory.specs.Meaning.{DirectoryMeaning}
use Rattle.directory.specs.Calls.{commit_answer, commit_after}
use Rattle.journal_record.specs.Records.{RecordValue}
use Rattle.journal_record.specs.Parse.{guard, first_record}

-- a directory with all its places free
abbrev pub empty_directory : ℕ → DirectoryMeaning
empty_directory places = record { entries = []; free = places }

-- The record's stamp is above that of the key's last record, and a new key has a place.
abbrev pub accepts : DirectoryMeaning → RecordValue → Bool
accepts m r = is_ok (commit_answer m r.container r.key r.entry)

abbrev pub after_record : DirectoryMeaning → RecordValue → DirectoryMeaning
after_record m r = commit_after m r.container r.key r.entry

-- no record follows
abbrev pub ended : List ℕ → Bool
ended [] = true
ended (x ∷ xs) = x == 0

-- the directory after the record at the front of bytes, and how many bytes that takes up; nothing where it is bad
abbrev pub accepted : DirectoryMeaning → Option (RecordValue × ℕ) → Option (DirectoryMeaning × ℕ)
accepted m None = None
accepted m (Some p) = guard (accepts m p.0) (Some (after_record m p.0, p.1))

abbrev pub take_record : DirectoryMeaning → List ℕ → Option (DirectoryMeaning × ℕ)
take_record m bytes = accepted m (first_record bytes)

abbrev pub go_on : {A : Type 0} → Option (DirectoryMeaning × ℕ) → A → (DirectoryMeaning → ℕ → A) → A
go_on None bad next = bad
go_on (Some p) bad next = next p.0 p.1

-- The directory, and where the records end; or the offset at which the first bad one begins. The bytes stand at this
-- offset, and the first so many of them are of the record that was read last.
unfoldable pub replay_from : DirectoryMeaning → ℕ → ℕ → List ℕ → Result (DirectoryMeaning × ℕ) ℕ
replay_from m offset skip [] = Ok (m, offset)
replay_from m offset (suc skip) (x ∷ xs) = replay_from m (suc offset) skip xs
replay_from m offset zero (x ∷ xs) =
    cond (x == 0) (Ok (m, offset))
    (go_on (take_record m (x ∷ xs)) (Err offset) (λ after n. replay_from after (suc offset) (n - 1) xs))

abbrev pub replay : ℕ → List ℕ → Result (DirectoryMeaning × ℕ) ℕ
replay places bytes = replay_from (empty_directory places) 0 0 bytes
