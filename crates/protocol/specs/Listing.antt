-- The listing of a container.
use Rattle.std.specs.Prelude.{ℕ, List, [], ◌∷◌, ◌++◌, length, Some, None, Option}
use Rattle.bytemap.specs.Map.{Map}
use Rattle.entry.specs.Entries.{EntryValue, LiveValue}
use Rattle.directory.specs.Meaning.{DirectoryMeaning, contents}

abbrev pub key_if_live : Option LiveValue → List ℕ → List (List ℕ) → List (List ℕ)
key_if_live None key keys = keys
key_if_live (Some l) key keys = key ∷ keys

-- the keys whose entries are live
unfoldable pub live_keys : Map EntryValue → List (List ℕ)
live_keys [] = []
live_keys (p ∷ m) = key_if_live p.1.live p.0 (live_keys m)

-- those of one container, ascending
abbrev pub keys_of : DirectoryMeaning → ℕ → List (List ℕ)
keys_of d container = live_keys (contents container d.entries)

-- each key as its length in a byte, and its bytes
unfoldable pub listing : List (List ℕ) → List ℕ
listing [] = []
listing (k ∷ ks) = length k ∷ (k ++ listing ks)
