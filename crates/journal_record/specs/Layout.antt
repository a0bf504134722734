-- The bytes of a record: a bit map; the key's length; the key; the sequence in four bytes, highest first; the writer;
-- then, in bit order, only the fields whose bit stands.
use Rattle.std.specs.Prelude.{ℕ, ◌+◌, ◌/◌, ◌%◌, ◌^◌, cond, List, [], ◌∷◌, ◌++◌, length, Some, None, Option, ◌==◌}
use Rattle.naming.specs.Stamps.{StampValue}
use Rattle.entry.specs.Entries.{LiveValue}
use Rattle.journal_record.specs.Records.{RecordValue}

-- ---- numbers, highest byte first

abbrev pub two_bytes : ℕ → List ℕ
two_bytes x = x / 2 ^ 8 % 256 ∷ x % 256 ∷ []

abbrev pub four_bytes : ℕ → List ℕ
four_bytes x = x / 2 ^ 24 % 256 ∷ x / 2 ^ 16 % 256 ∷ x / 2 ^ 8 % 256 ∷ x % 256 ∷ []

-- ---- the bit map

-- bit 0 stands where the container is not 0
abbrev pub container_bit : ℕ → ℕ
container_bit container = cond (container == 0) 0 1

-- bit 2 stands where the size is not 0
abbrev pub size_bit : ℕ → ℕ
size_bit size = cond (size == 0) 0 4

-- bit 3 stands for a digest of 20 bytes, bit 4 for one of 32
abbrev pub digest_bit : List ℕ → ℕ
digest_bit digest = cond (length digest == 20) 8 16

-- a deleted entry has bits 1 to 4 clear, a live one has bit 1
abbrev pub live_bits : Option LiveValue → ℕ
live_bits None = 0
live_bits (Some l) = 2 + size_bit l.size + digest_bit l.digest

-- bit 7 always stands, bits 5 and 6 never
abbrev pub map_of : RecordValue → ℕ
map_of r = 128 + container_bit r.container + live_bits r.entry.live

-- ---- the fields

abbrev pub stamp_field : StampValue → List ℕ
stamp_field s = four_bytes s.sequence ++ (s.writer ∷ [])

-- a container of 0 is left out
abbrev pub container_field : ℕ → List ℕ
container_field container = cond (container == 0) [] (container ∷ [])

-- a size of 0 is left out
abbrev pub size_field : ℕ → List ℕ
size_field size = cond (size == 0) [] (two_bytes size)

-- the cloud list, the size and the digest; nothing of a deleted entry
abbrev pub live_fields : Option LiveValue → List ℕ
live_fields None = []
live_fields (Some l) = (l.clouds ∷ []) ++ (size_field l.size ++ l.digest)

-- ---- the record

-- what every record has
unfoldable pub head_of : RecordValue → List ℕ
head_of r = (map_of r ∷ length r.key ∷ []) ++ (r.key ++ stamp_field r.entry.stamp)

unfoldable pub encode : RecordValue → List ℕ
encode r = head_of r ++ (container_field r.container ++ live_fields r.entry.live)

-- How many bytes the longest record has.
abbrev pub longest_record : ℕ
longest_record = 75
