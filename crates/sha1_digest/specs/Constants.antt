-- The constants of SHA-1, as FIPS 180-4 lists them.
use Rattle.std.specs.Prelude.{ℕ, List, [], ◌∷◌}

-- the constants of the rounds: each is that of twenty rounds
abbrev pub constants : List ℕ
constants = 0x5a827999 ∷ 0x6ed9eba1 ∷ 0x8f1bbcdc ∷ 0xca62c1d6 ∷ []

-- the initial hash value
abbrev pub initial : List ℕ
initial = 0x67452301 ∷ 0xefcdab89 ∷ 0x98badcfe ∷ 0x10325476 ∷ 0xc3d2e1f0 ∷ []
