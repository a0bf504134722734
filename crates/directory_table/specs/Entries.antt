-- What entries with their keys stand for.
use Rattle.std.specs.Prelude.{◌≡◌, ℕ, ◌-◌, ◌<◌, List, map, length, Some, None, Option, slice_index_or}
use Rattle.bytemap.specs.Map.{find, gathered}
use Rattle.entry.specs.Entries.{EntryValue, entry_value}
use Rattle.directory.specs.Meaning.{DirectoryMeaning, address}
use Rattle.directory_table.specs.declared.keyed_entry.KeyedEntry.{KeyedEntry}

abbrev pub container_of : KeyedEntry → ℕ
container_of x = x.at.container

abbrev pub key_of : KeyedEntry → List ℕ
key_of x = x.at.key.bytes

abbrev pub value_of : KeyedEntry → EntryValue
value_of x = entry_value x.entry

abbrev pub key_address : KeyedEntry → List ℕ
key_address x = address (container_of x) (key_of x)

abbrev pub pair : KeyedEntry → List ℕ × EntryValue
pair x = (key_address x, value_of x)

abbrev pub pairs : List KeyedEntry → List (List ℕ × EntryValue)
pairs xs = map pair xs

-- a directory with these entries, in as many places
abbrev pub meaning_of : List KeyedEntry → ℕ → DirectoryMeaning
meaning_of xs places = record { entries = gathered (pairs xs); free = places - length xs }

-- the answer of a search for a key of a container
abbrev pub IndexOf : List KeyedEntry → ℕ → List ℕ → Option ℕ → Type 0
IndexOf xs container key None = find (pairs xs) (address container key) ≡ None
IndexOf xs container key (Some i) = (i < length xs) × ((d : KeyedEntry) → key_address (slice_index_or xs i d) ≡ address container key)
