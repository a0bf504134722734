-- The walk through the live keys of a container.
use Rattle.std.specs.Prelude.{◌≡◌, ℕ, List, [], Some, None, Option}
use Rattle.std.specs.Option.{option_map}
use Rattle.std.specs.Iterator.{YieldsFirstBy}
use Rattle.bytemap.specs.Map.{Map, beyond}
use Rattle.naming.specs.declared.key.Key.{Key}
use Rattle.entry.specs.Entries.{EntryValue}
use Rattle.directory.specs.Meaning.{DirectoryMeaning, contents}
use Rattle.protocol.specs.Listing.{live_keys}
use Rattle.listing.specs.declared.keys.LiveKeys.{LiveKeys}

-- the bytes of a key that was given
abbrev pub key_given : Option Key → Option (List ℕ)
key_given o = option_map (λ (k : Key). k.bytes) o

-- those above which the next key is sought: at first none
abbrev pub bytes_of : Option Key → List ℕ
bytes_of None = []
bytes_of (Some k) = k.bytes

module _ {D : Type 0} (means : D → DirectoryMeaning) where
  -- the container's entries, by their keys
  abbrev pub inside : LiveKeys D → Map EntryValue
  inside s = contents s.container (means s.directory.now).entries

  -- the live keys that are still to come
  abbrev pub left : LiveKeys D → List (List ℕ)
  left s = live_keys (beyond (bytes_of s.last) (inside s))

  -- the walk goes on at the same directory, which keeps its meaning, and in the same container
  pub record SameDirectory (s t : LiveKeys D) : Type 0 where
    pub directory : t.directory.ghost_name ≡ s.directory.ghost_name
    pub meaning : means t.directory.now ≡ means s.directory.now
    pub container : t.container ≡ s.container

  -- one step gives the first of the keys that are left
  pub record Steps (s : LiveKeys D) (r : Option Key) (t : LiveKeys D) : Type 0 where
    pub key : YieldsFirstBy (λ (k : Key). k.bytes) left s r t
    pub same : SameDirectory s t
