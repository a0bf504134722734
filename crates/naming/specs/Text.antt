-- What the bytes of a key may be.
use Rattle.std.specs.Prelude.{ℕ, Bool, true, ◌&&◌, List, [], ◌∷◌, length, nat_le}
use Rattle.naming.specs.Limits.{longest_key}

-- A visible character of ASCII: 0x21 to 0x7E.
abbrev pub visible : ℕ → Bool
visible b = nat_le 0x21 b && nat_le b 0x7e

-- Each byte is visible.
unfoldable pub printable : List ℕ → Bool
printable [] = true
printable (b ∷ bs) = visible b && printable bs

-- A key has 1 to 32 bytes, all printable.
unfoldable pub valid_key : List ℕ → Bool
valid_key bs = nat_le 1 (length bs) && nat_le (length bs) longest_key && printable bs
