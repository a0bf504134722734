-- What a table means, and when one is made.
use Rattle.std.specs.Prelude.{◌≡◌, ℕ, Bool, true, false, ◌&&◌, List, [], Ok, Err, vec_items, vec_capacity, Result, Vec, nat_le}
use Rattle.std.specs.declared.alloc.Global.{Global}
use Rattle.refusal.specs.declared.Refusal.TheVariants.{UnsupportedStorage}
use Rattle.refusal.specs.declared.Rejected.{Rejected}
use Rattle.directory.specs.Meaning.{DirectoryMeaning}
use Rattle.directory_table.specs.declared.keyed_entry.KeyedEntry.{KeyedEntry}
use Rattle.directory_table.specs.declared.table.Table.{Table}
use Rattle.directory_table.specs.Entries.{meaning_of}

abbrev pub table_entries : Table → List KeyedEntry
table_entries t = vec_items t.entries

-- the memory that the table was made of
abbrev pub table_memory : Table → Vec KeyedEntry Global
table_memory t = t.entries

abbrev pub table_meaning : Table → DirectoryMeaning
table_meaning t = meaning_of (table_entries t) t.places

-- 1 to 64 places, and room for all of them
abbrev pub supported : ℕ → ℕ → Bool
supported places room = nat_le 1 places && nat_le places 64 && nat_le places room

-- A table is made just where it is supported: it is empty, and all its places are free.
-- Otherwise the memory comes back as it was.
abbrev pub Made : Vec KeyedEntry Global → ℕ → Result Table (Rejected (Vec KeyedEntry Global)) → Type 0
Made memory places (Ok table) =
    (supported places (vec_capacity memory) ≡ true) × (table_meaning table ≡ record { entries = []; free = places })
    × (vec_capacity (table_memory table) ≡ vec_capacity memory)
Made memory places (Err rejected) =
    (supported places (vec_capacity memory) ≡ false) × (rejected.refusal ≡ UnsupportedStorage) × (rejected.given ≡ memory)
