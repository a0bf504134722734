-- The padding of a message of bytes, its blocks of sixteen words, and the digest, which SHA-1 and SHA-256 share, as FIPS 180-4 defines them.
use Rattle.std.specs.Prelude.{◌≡◌, ℕ, ◌+◌, ◌-◌, ◌*◌, ◌/◌, ◌%◌, ◌^◌, ◌<◌, List, [], ◌∷◌, ◌++◌, map, length, take, replicate}
use Rattle.std.specs.List.{range_with_len, flat_map}
use Rattle.digest.specs.Words.{be4, word}
use Rattle.digest.specs.Rounds.{turned}

-- the low 64 bits of a number in eight bytes, the highest first
abbrev pub be8 : ℕ → List ℕ
be8 x = be4 (x / 2 ^ 32) ++ be4 x

-- how many bytes of 0 follow the byte 128 after n bytes: the fewest with which the padded message has whole blocks of 64 bytes
abbrev pub zeros : ℕ → ℕ
zeros n = (119 - n % 64) % 64

-- the message with the byte 128, a bit 1 and seven bits 0, after it
abbrev pub marked : List ℕ → List ℕ
marked m = m ++ (128 ∷ [])

-- what a message ends as, from its last bytes on: these, a bit 1, bits 0, and the length in bits of the whole message
abbrev pub ending : List ℕ → ℕ → List ℕ
ending rest n = rest ++ (128 ∷ (replicate (zeros n) 0 ++ be8 (8 * n)))

-- The padded message: a bit 1, bits 0, and the message's length in bits. The standard allows no message of 2 ^ 64 bits
-- and more; here such a message too has a digest, for which the low 64 bits of its length are taken.
unfoldable pub padded : List ℕ → List ℕ
padded m = ending m (length m)

-- The padding is right: the padded message begins with the message, has whole blocks of 64 bytes, and not one block
-- more than the message, the mark and the length need.
pub record PaddingRight (m : List ℕ) : Type 0 where
  pub begins : take (length m) (padded m) ≡ m
  pub whole : length (padded m) % 64 ≡ 0
  pub least : length (padded m) < length m + 1 + 8 + 64

-- the block i of a message: sixteen words
unfoldable pub block : List ℕ → ℕ → List ℕ
block m i = map (λ t. word m (16 * i + t)) (range_with_len 0 16)

-- the hash value after the first n blocks of m
abbrev pub chained : List ℕ → (List ℕ → List ℕ → List ℕ) → List ℕ → ℕ → List ℕ
chained initial compressed m n = turned (λ h i. compressed h (block m i)) initial n

-- The digest: the bytes of the hash value after all blocks of the padded message, from the initial hash value and by
-- a digest's own compression of a block into a hash value.
unfoldable pub digest_of : List ℕ → (List ℕ → List ℕ → List ℕ) → List ℕ → List ℕ
digest_of initial compressed m = flat_map be4 (chained initial compressed (padded m) (length (padded m) / 64))
