-- SHA-256, as FIPS 180-4 defines it: its functions on words, its message schedule, its rounds and the digest.
use Rattle.std.specs.Prelude.{ℕ, ◌≡◌, List, [], ◌∷◌, get_or}
use Rattle.std.specs.Int.Bits.{bit_xor}
use Rattle.digest.specs.Words.{plus, shr, rotr, ch, maj}
use Rattle.digest.specs.Rounds.{compression}
use Rattle.digest.specs.Message.{digest_of}
use Rattle.sha256.specs.Constants.{constants, initial}

-- the sum of three rotations, and of two rotations and a shift
abbrev pub Σ : ℕ → ℕ → ℕ → ℕ → ℕ
Σ a b c x = bit_xor (bit_xor (rotr a x) (rotr b x)) (rotr c x)

abbrev pub σ : ℕ → ℕ → ℕ → ℕ → ℕ
σ a b c x = bit_xor (bit_xor (rotr a x) (rotr b x)) (shr c x)

abbrev pub Σ0 : ℕ → ℕ
Σ0 = Σ 2 13 22

abbrev pub Σ1 : ℕ → ℕ
Σ1 = Σ 6 11 25

abbrev pub σ0 : ℕ → ℕ
σ0 = σ 7 18 3

abbrev pub σ1 : ℕ → ℕ
σ1 = σ 17 19 10

-- a word of the message schedule, from the words 2, 7, 15 and 16 places back
abbrev pub mixed : (ℕ → ℕ) → ℕ
mixed back = plus (plus (plus (σ1 (back 2)) (back 7)) (σ0 (back 15))) (back 16)

-- The round t with the word w: the list v is that of the eight working variables, a to h.
abbrev pub T1 : List ℕ → ℕ → ℕ → ℕ
T1 v t w = plus (plus (plus (plus (get_or v 7 0) (Σ1 (get_or v 4 0))) (ch (get_or v 4 0) (get_or v 5 0) (get_or v 6 0))) (get_or constants t 0)) w

abbrev pub T2 : List ℕ → ℕ
T2 v = plus (Σ0 (get_or v 0 0)) (maj (get_or v 0 0) (get_or v 1 0) (get_or v 2 0))

unfoldable pub round : List ℕ → ℕ → ℕ → List ℕ
round v t w =
    plus (T1 v t w) (T2 v) ∷ get_or v 0 0 ∷ get_or v 1 0 ∷ get_or v 2 0 ∷ plus (get_or v 3 0) (T1 v t w) ∷ get_or v 4 0 ∷ get_or v 5 0 ∷ get_or v 6 0 ∷ []

-- 64 rounds for a block, and a hash value of 8 words
abbrev pub compressed : List ℕ → List ℕ → List ℕ
compressed = compression round mixed 64 8

abbrev pub sha256 : List ℕ → List ℕ
sha256 m = digest_of initial compressed m

-- The standard's example: the digest of the three bytes of "abc".
abbrev pub DigestOfAbc : Type 0
DigestOfAbc =
    sha256 (97 ∷ 98 ∷ 99 ∷ [])
    ≡ (0xba ∷ 0x78 ∷ 0x16 ∷ 0xbf ∷ 0x8f ∷ 0x01 ∷ 0xcf ∷ 0xea ∷ 0x41 ∷ 0x41 ∷ 0x40 ∷ 0xde ∷ 0x5d ∷ 0xae ∷ 0x22 ∷ 0x23
    ∷ 0xb0 ∷ 0x03 ∷ 0x61 ∷ 0xa3 ∷ 0x96 ∷ 0x17 ∷ 0x7a ∷ 0x9c ∷ 0xb4 ∷ 0x10 ∷ 0xff ∷ 0x61 ∷ 0xf2 ∷ 0x00 ∷ 0x15 ∷ 0xad ∷ [])
