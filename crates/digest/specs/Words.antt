-- Words, numbers below 2 ^ 32, and the functions on them that SHA-1 and SHA-256 share, as FIPS 180-4 defines them.
use Rattle.std.specs.Prelude.{ℕ, ◌+◌, ◌-◌, ◌*◌, ◌/◌, ◌%◌, ◌^◌, List, [], ◌∷◌, map, bit_and, bit_or, bit_xor, slice_index}
use Rattle.std.specs.List.{range_with_len}

-- addition modulo 2 ^ 32
abbrev pub plus : ℕ → ℕ → ℕ
plus x y = (x + y) % 2 ^ 32

-- the complement of each bit
abbrev pub complement : ℕ → ℕ
complement x = (2 ^ 32 - 1) - x

-- a shift to the right, and rotations by n bits, 0 < n < 32
abbrev pub shr : ℕ → ℕ → ℕ
shr n x = x / 2 ^ n

abbrev pub rotr : ℕ → ℕ → ℕ
rotr n x = bit_or (x / 2 ^ n) ((x * 2 ^ (32 - n)) % 2 ^ 32)

abbrev pub rotl : ℕ → ℕ → ℕ
rotl n x = bit_or ((x * 2 ^ n) % 2 ^ 32) (x / 2 ^ (32 - n))

-- Ch: each bit of x chooses the bit of y or of z
abbrev pub ch : ℕ → ℕ → ℕ → ℕ
ch x y z = bit_xor (bit_and x y) (bit_and (complement x) z)

-- Maj: the bit that two of the three have
abbrev pub maj : ℕ → ℕ → ℕ → ℕ
maj x y z = bit_xor (bit_xor (bit_and x y) (bit_and x z)) (bit_and y z)

-- the sums of n words, place by place
unfoldable pub sums : ℕ → List ℕ → List ℕ → List ℕ
sums n xs ys = map (λ i. plus (slice_index xs i) (slice_index ys i)) (range_with_len 0 n)

-- a word in four bytes, the highest first
abbrev pub be4 : ℕ → List ℕ
be4 x = (x / 2 ^ 24 % 256) ∷ (x / 2 ^ 16 % 256) ∷ (x / 2 ^ 8 % 256) ∷ (x % 256) ∷ []

-- the word that stands in the bytes 4 * j to 4 * j + 3, the highest first
abbrev pub word : List ℕ → ℕ → ℕ
word bs j = slice_index bs (4 * j) * 16777216 + slice_index bs (4 * j + 1) * 65536 + slice_index bs (4 * j + 2) * 256 + slice_index bs (4 * j + 3)
