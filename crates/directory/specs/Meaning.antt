-- What a directory means.
use Rattle.std.specs.Prelude.{◌≡◌, ℕ, ◌+◌, ◌≤◌, true, cond, List, [], ◌∷◌, length, Some, ◌==◌}
use Rattle.bytemap.specs.Map.{Map, find, Ascending}
use Rattle.naming.specs.Text.{valid_key}
use Rattle.entry.specs.Entries.{EntryValue, ValidEntry}

pub record DirectoryMeaning : Type 0 where
  -- the entries, by the address of their key
  pub entries : Map EntryValue
  -- how many keys more it can hold
  pub free : ℕ

-- A key's address is its container and then its bytes, so that addresses are ordered by container, then by key.
abbrev pub address : ℕ → List ℕ → List ℕ
address container key = container ∷ key

-- an address in front of a container's entries: one of that container adds its key
abbrev pub with_key : {V : Type 0} → ℕ → List ℕ → V → Map V → Map V
with_key container [] v m = m
with_key container (c ∷ key) v m = cond (c == container) ((key, v) ∷ m) m

-- the entries of one container, by their keys
unfoldable pub contents : {V : Type 0} → ℕ → Map V → Map V
contents container [] = []
contents container (p ∷ m) = with_key container p.0 p.1 (contents container m)

-- What holds of every directory: no key twice, containers, keys and entries within their limits, at most 64 places.
pub record WithinLimits (m : DirectoryMeaning) : Type 0 where
  pub ascending : Ascending m.entries
  pub addresses : (a : List ℕ) (e : EntryValue) → find m.entries a ≡ Some e
      → (container : ℕ) × (key : List ℕ) × (a ≡ address container key) × (container ≤ 255) × (valid_key key ≡ true)
  pub valid : (a : List ℕ) (e : EntryValue) → find m.entries a ≡ Some e → ValidEntry e
  pub places : length m.entries + m.free ≤ 64
