-- The records of a log: how one is written in bytes, and which records bytes hold.
use Rattle.std.specs.Prelude.{◌≡◌, ℕ, zero, suc, ◌+◌, ◌*◌, ◌/◌, ◌%◌, Bool, true, cond, ◌&&◌, List, [], ◌∷◌, ◌++◌, length, take, drop, ◌==◌, nat_le, slice_index}
use Rattle.std.specs.List.{flat_map}
use Rattle.cloud.specs.Meaning.{longest_name, longest_value}

pub data Record : Type 0 where
  -- a value put under a name
  stored : List ℕ → List ℕ → Record
  -- a name dropped
  dropped : List ℕ → Record

-- names and values are of limited length
abbrev pub valid : Record → Bool
valid (stored name value) = nat_le (length name) longest_name && nat_le (length value) longest_value
valid (dropped name) = nat_le (length name) longest_name

-- A record in bytes: the name's length in one byte, the name, the value's size in two bytes, and the value.
abbrev pub framed : List ℕ → List ℕ → List ℕ → List ℕ
framed name size value = length name ∷ (name ++ (size ++ value))

-- The size has the higher byte first. That of a dropped name is the two bytes 255, and there is no value.
unfoldable pub encoded : Record → List ℕ
encoded (stored name value) = framed name (length value / 256 ∷ length value % 256 ∷ []) value
encoded (dropped name) = framed name (255 ∷ 255 ∷ []) []

abbrev pub longest_record : ℕ
longest_record = 1 + longest_name + 2 + longest_value

abbrev pub all_encoded : List Record → List ℕ
all_encoded rs = flat_map encoded rs

abbrev pub all_valid : List Record → Bool
all_valid [] = true
all_valid (r ∷ rs) = valid r && all_valid rs

-- ---- reading

-- the number in the two bytes after a name
abbrev pub size_in : List ℕ → ℕ
size_in after = 256 * slice_index after 0 + slice_index after 1

abbrev pub no_size : ℕ
no_size = 65535

-- the record of a name, by the bytes after it
abbrev pub record_of : List ℕ → List ℕ → Record
record_of name after = cond (size_in after == no_size) (dropped name) (stored name (take (size_in after) (drop 2 after)))

-- what follows the record
abbrev pub past_record : List ℕ → List ℕ
past_record after = cond (size_in after == no_size) (drop 2 after) (drop (size_in after) (drop 2 after))

-- record after record, at most `most`
unfoldable pub first_records : ℕ → List ℕ → List Record
first_records zero bytes = []
first_records (suc most) [] = []
first_records (suc most) (n ∷ bytes) = record_of (take n bytes) (drop n bytes) ∷ first_records most (past_record (drop n bytes))

-- all of them: each takes up one byte at least
unfoldable pub records_in : List ℕ → List Record
records_in bytes = first_records (length bytes) bytes

-- The bytes are records, one right after another, and nothing else.
pub record Whole (bytes : List ℕ) : Type 0 where
  pub all_of_them : all_encoded (records_in bytes) ≡ bytes
  pub each_valid : all_valid (records_in bytes) ≡ true

-- Theorem: what is read is what was written.
abbrev pub RecordsReadBack : Type 0
RecordsReadBack = (rs : List Record) → all_valid rs ≡ true → records_in (all_encoded rs) ≡ rs
