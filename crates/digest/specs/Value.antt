-- A digest as it is kept.
use Rattle.std.specs.Prelude.{ℕ, Bool, cond, ◌||◌, List, length, Some, None, Option, ◌==◌}
use Rattle.digest.specs.declared.value.Digest.{Digest}
use Rattle.digest.specs.declared.value.Digest.TheVariants.{Short, Long}

-- its bytes
abbrev pub digest_bytes : Digest → List ℕ
digest_bytes (Short bs) = bs
digest_bytes (Long bs) = bs

-- whether a digest can have these bytes: 20 or 32 of them
abbrev pub is_digest : List ℕ → Bool
is_digest bs = length bs == 20 || length bs == 32

-- the bytes themselves, if a digest can have them
abbrev pub as_digest : List ℕ → Option (List ℕ)
as_digest bs = cond (is_digest bs) (Some bs) None
