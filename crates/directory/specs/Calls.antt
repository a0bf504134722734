-- What each call at a directory answers and leaves.
use Rattle.std.specs.Prelude.{ℕ, ◌-◌, cond, List, ◌++◌, length, drop, Some, None, Ok, Err, Option, Result, ◌==◌}
use Rattle.bytemap.specs.Map.{find, insert, next_key}
use Rattle.naming.specs.Stamps.{StampValue, no_stamp, stamp_below}
use Rattle.entry.specs.Entries.{EntryValue}
use Rattle.directory.specs.declared.interface.CommitError.{CommitError}
use Rattle.directory.specs.declared.interface.CommitError.TheVariants.{Older, Full}
use Rattle.directory.specs.Meaning.{DirectoryMeaning, address, contents}

-- ---- look

abbrev pub entry_of : DirectoryMeaning → ℕ → List ℕ → Option EntryValue
entry_of m container key = find m.entries (address container key)

-- ---- commit

-- the stamp that a new one must be above: a key without an entry has (0, 0)
abbrev pub stamp_of : Option EntryValue → StampValue
stamp_of None = no_stamp
stamp_of (Some e) = e.stamp

-- whether the entry is set, or why it is not
abbrev pub Answer : Type 0
Answer = Result (Unit {0}) CommitError

abbrev pub place_answer : Option EntryValue → ℕ → Answer
place_answer (Some old) free = Ok tt
place_answer None free = cond (free == 0) (Err Full) (Ok tt)

unfoldable pub commit_answer : DirectoryMeaning → ℕ → List ℕ → EntryValue → Answer
commit_answer m container key e =
    cond (stamp_below (stamp_of (entry_of m container key)) e.stamp) (place_answer (entry_of m container key) m.free) (Err Older)

abbrev pub free_after : Option EntryValue → ℕ → ℕ
free_after (Some old) free = free
free_after None free = free - 1

abbrev pub when_committed : Answer → DirectoryMeaning → ℕ → List ℕ → EntryValue → DirectoryMeaning
when_committed (Ok t) m container key e =
    record { entries = insert m.entries (address container key) e; free = free_after (entry_of m container key) m.free }
when_committed (Err why) m container key e = m

unfoldable pub commit_after : DirectoryMeaning → ℕ → List ℕ → EntryValue → DirectoryMeaning
commit_after m container key e = when_committed (commit_answer m container key e) m container key e

-- ---- next

-- the container's smallest key above these bytes
abbrev pub key_after : DirectoryMeaning → ℕ → List ℕ → Option (List ℕ)
key_after m container above = next_key (contents container m.entries) above

-- a key written to the front of a place; the rest of it stays
abbrev pub place_with : Option (List ℕ) → List ℕ → List ℕ
place_with None place = place
place_with (Some key) place = key ++ drop (length key) place
