-- SHA-1, as FIPS 180-4 defines it: its functions on words, its message schedule, its rounds and the digest.
use Rattle.std.specs.Prelude.{◌≡◌, ℕ, ◌/◌, cond, List, [], ◌∷◌, bit_xor, nat_lt, slice_index}
use Rattle.digest.specs.Words.{plus, rotl, ch, maj}
use Rattle.digest.specs.Rounds.{compression}
use Rattle.digest.specs.Message.{digest_of}
use Rattle.sha1_digest.specs.Constants.{constants, initial}

abbrev pub parity : ℕ → ℕ → ℕ → ℕ
parity x y z = bit_xor (bit_xor x y) z

-- f_t, the function of the round t
abbrev pub f : ℕ → ℕ → ℕ → ℕ → ℕ
f t x y z = cond (nat_lt t 20) (ch x y z) (cond (nat_lt t 40) (parity x y z) (cond (nat_lt t 60) (maj x y z) (parity x y z)))

-- a word of the message schedule, from the words 3, 8, 14 and 16 places back
abbrev pub mixed : (ℕ → ℕ) → ℕ
mixed back = rotl 1 (bit_xor (bit_xor (bit_xor (back 3) (back 8)) (back 14)) (back 16))

-- The round t with the word w: the list v is that of the five working variables, a to e.
unfoldable pub round : List ℕ → ℕ → ℕ → List ℕ
round v t w =
    plus (plus (plus (plus (rotl 5 (slice_index v 0)) (f t (slice_index v 1) (slice_index v 2) (slice_index v 3))) (slice_index v 4)) (slice_index constants (t / 20))) w
    ∷ slice_index v 0 ∷ rotl 30 (slice_index v 1) ∷ slice_index v 2 ∷ slice_index v 3 ∷ []

-- 80 rounds for a block, and a hash value of 5 words
abbrev pub compressed : List ℕ → List ℕ → List ℕ
compressed = compression round mixed 80 5

abbrev pub sha1 : List ℕ → List ℕ
sha1 m = digest_of initial compressed m

-- The standard's example: the digest of the three bytes of "abc".
abbrev pub DigestOfAbc : Type 0
DigestOfAbc =
    sha1 (97 ∷ 98 ∷ 99 ∷ [])
    ≡ (0xa9 ∷ 0x99 ∷ 0x3e ∷ 0x36 ∷ 0x47 ∷ 0x06 ∷ 0x81 ∷ 0x6a ∷ 0xba ∷ 0x3e ∷ 0x25 ∷ 0x71 ∷ 0x78 ∷ 0x50 ∷ 0xc2 ∷ 0x6c ∷ 0x9c ∷ 0xd0 ∷ 0xd8 ∷ 0x9d ∷ [])
