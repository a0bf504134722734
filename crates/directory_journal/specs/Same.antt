-- Whether two directories are the same. The fact that a struct keeps is a test: it cannot be an equation of directories.
use Rattle.std.specs.Prelude.{ℕ, Bool, true, false, ◌&&◌, List, [], ◌∷◌, Some, None, Ok, Err, Option, Result, ◌==◌}
use Rattle.std.specs.Str.{bytes_eq}
use Rattle.bytemap.specs.Map.{Map}
use Rattle.entry.specs.Entries.{EntryValue, LiveValue}
use Rattle.directory.specs.Meaning.{DirectoryMeaning}

abbrev pub live_numbers : Option LiveValue → List ℕ
live_numbers None = []
live_numbers (Some l) = l.clouds ∷ l.size ∷ l.digest

-- an entry as numbers; different entries have different ones
abbrev pub entry_numbers : EntryValue → List ℕ
entry_numbers e = e.stamp.sequence ∷ e.stamp.writer ∷ live_numbers e.live

unfoldable pub same_entries : Map EntryValue → Map EntryValue → Bool
same_entries [] [] = true
same_entries [] (q ∷ n) = false
same_entries (p ∷ m) [] = false
same_entries (p ∷ m) (q ∷ n) =
    (bytes_eq p.0 q.0 && bytes_eq (entry_numbers p.1) (entry_numbers q.1)) && same_entries m n

abbrev pub same_directory : DirectoryMeaning → DirectoryMeaning → Bool
same_directory m n = same_entries m.entries n.entries && m.free == n.free

-- whether this was replayed: the directory, and where the records end
abbrev pub says : Result (DirectoryMeaning × ℕ) ℕ → DirectoryMeaning → ℕ → Bool
says (Ok p) m used = same_directory p.0 m && p.1 == used
says (Err offset) m used = false
