-- The index of a log: where the last record of each held name lies in the bytes.
use Rattle.std.specs.Prelude.{◌≡◌, ℕ, suc, ◌+◌, ◌<◌, Bool, ◌&&◌, List, [], ◌∷◌, ◌++◌, map, length, take, drop, Some, None, Option, ◌≢◌, nat_le, slice_index_or}
use Rattle.std.specs.List.{position}
use Rattle.std.specs.Str.{bytes_eq}
use Rattle.log_record.specs.Records.{Record, stored, encoded}
use Rattle.cloud_log.specs.declared.entry.Entry.{Entry}

abbrev pub name_of : Entry → List ℕ
name_of e = e.name

-- how many bytes the entry's record takes up: three are lengths
abbrev pub record_size : Entry → ℕ
record_size e = length (name_of e) + e.size + 3

-- where the record ends
abbrev pub end_of : Entry → ℕ
end_of e = e.offset + record_size e

-- the bytes of the record
abbrev pub record_bytes : List ℕ → Entry → List ℕ
record_bytes bytes e = take (record_size e) (drop e.offset bytes)

-- the value in it, past the lengths and the name
abbrev pub value_in : List ℕ → Entry → List ℕ
value_in bytes e = drop (length (name_of e) + 3) (record_bytes bytes e)

abbrev pub pair_in : List ℕ → Entry → List ℕ × List ℕ
pair_in bytes e = (name_of e, value_in bytes e)

abbrev pub record_in : List ℕ → Entry → Record
record_in bytes e = stored (name_of e) (value_in bytes e)

-- what stands where the entry says is such a record
abbrev pub recorded : List ℕ → Entry → Bool
recorded bytes e = bytes_eq (record_bytes bytes e) (encoded (record_in bytes e))

-- The entries' records stand one after another, in the order of the entries, none before `low` or past `high`.
unfoldable pub laid : List ℕ → ℕ → ℕ → List Entry → Bool
laid bytes low high [] = nat_le low high
laid bytes low high (e ∷ es) = nat_le low e.offset && (recorded bytes e && laid bytes (end_of e) high es)

-- ---- by name

abbrev pub names : List Entry → List (List ℕ)
names es = map name_of es

-- the first place where a name stands
abbrev pub place_of : List Entry → List ℕ → Option ℕ
place_of es name = position (λ e. bytes_eq (name_of e) name) es

-- where a name stands; none where it does not
abbrev pub Placed : List (List ℕ) → List ℕ → Option ℕ → Type 0
Placed ns name None = (k : ℕ) → k < length ns → slice_index_or ns k [] ≢ name
Placed ns name (Some i) = (i < length ns) × (slice_index_or ns i [] ≡ name)

-- a list without the element at a place, if there is one
abbrev pub without : {X : Type 0} → List X → Option ℕ → List X
without xs None = xs
without xs (Some i) = take i xs ++ drop (suc i) xs
