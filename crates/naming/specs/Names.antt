-- Names: under what a value is stored.
use Rattle.std.specs.Prelude.{◌≡◌, ℕ, ◌/◌, ◌%◌, ◌^◌, List, [], ◌∷◌, ◌++◌}
use Rattle.byte_strings.specs.Order.{below}
use Rattle.naming.specs.Stamps.{StampValue, ValidStamp, stamp_below}

-- What the names of a key begin with: the container, the key and the byte 0x7C.
unfoldable pub name_front : ℕ → List ℕ → List ℕ
name_front container key = container ∷ (key ++ (0x7c ∷ []))

-- The sequence in four bytes, highest first, and the writer in one.
unfoldable pub stamp_bytes : StampValue → List ℕ
stamp_bytes s =
    s.sequence / 2 ^ 24 ∷ s.sequence / 2 ^ 16 % 256 ∷ s.sequence / 2 ^ 8 % 256 ∷ s.sequence % 256 ∷ s.writer ∷ []

-- The name of a value.
abbrev pub name_of : ℕ → List ℕ → StampValue → List ℕ
name_of container key stamp = name_front container key ++ stamp_bytes stamp

-- These bytes are the name of some stamp of this container and key.
abbrev pub IsNameOf : List ℕ → ℕ → List ℕ → Type 0
IsNameOf name container key = (stamp : StampValue) × ValidStamp stamp × (name ≡ name_of container key stamp)

-- These bytes are no name.
abbrev pub NoName : List ℕ → Type 0
NoName name = (c : ℕ) (k : List ℕ) → IsNameOf name c k → ⊥

-- These bytes are the name of no other stamp than this.
abbrev pub OnlyStamp : List ℕ → StampValue → Type 0
OnlyStamp name t = (c : ℕ) (k : List ℕ) (s : StampValue) → ValidStamp s → name ≡ name_of c k s → s ≡ t

-- Theorem: different pairs of a key, in its container, and a stamp have different names.
abbrev pub NamesAreDistinct : Type 0
NamesAreDistinct = (c d : ℕ) (k l : List ℕ) (s t : StampValue) → name_of c k s ≡ name_of d l t → (c ≡ d) × (k ≡ l) × (s ≡ t)

-- Theorem: the names of one key are in the order of its stamps.
abbrev pub NamesKeepTheOrderOfStamps : Type 0
NamesKeepTheOrderOfStamps = (c : ℕ) (k : List ℕ) (s t : StampValue) → below (name_of c k s) (name_of c k t) ≡ stamp_below s t
