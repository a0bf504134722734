-- What the bytes of a digest may be.
use Rattle.std.specs.Prelude.{ℕ, Bool, true, ◌&&◌, List, [], ◌∷◌, nat_le}
use Rattle.digest.specs.Value.{is_digest}

-- each number is a byte
unfoldable pub all_bytes : List ℕ → Bool
all_bytes [] = true
all_bytes (b ∷ bs) = nat_le b 255 && all_bytes bs

-- 20 or 32 bytes
unfoldable pub digest_fits : List ℕ → Bool
digest_fits bs = is_digest bs && all_bytes bs
