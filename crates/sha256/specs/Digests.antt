-- A SHA-256 digest is 32 bytes, and the standard's example.
use Rattle.std.specs.Prelude.{◌≡◌, refl, List, ℕ, ◌<◌, length, get_or}
use Rattle.digest.specs.Words.{sums}
use Rattle.digest.specs.Rounds.{turned, grown, compression}
use Rattle.digest.specs.Message.{padded, block, digest_of}
use Rattle.digest.specs.Widths.{length_digest, digest_of_small}
use Rattle.sha256.specs.Constants.{constants, initial}
use Rattle.sha256.specs.Sha256.{mixed, round, compressed, sha256, DigestOfAbc}

pub length_sha256 : (m : List ℕ) → length (sha256 m) ≡ 32
length_sha256 m = length_digest initial round mixed 64 8 refl m 32 refl

pub sha256_small : (m : List ℕ) (k : ℕ) → get_or (sha256 m) k 0 < 256
sha256_small m k = digest_of_small initial compressed m k

pub digest_of_abc : DigestOfAbc
unfolding sums turned grown compression padded block digest_of constants round
digest_of_abc = refl
