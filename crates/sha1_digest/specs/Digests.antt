-- A SHA-1 digest is 20 bytes, and the standard's example.
use Rattle.std.specs.Prelude.{◌≡◌, ℕ, ◌<◌, List, length, slice_index, refl}
use Rattle.digest.specs.Words.{sums}
use Rattle.digest.specs.Rounds.{turned, grown, compression}
use Rattle.digest.specs.Message.{padded, block, digest_of}
use Rattle.digest.specs.Widths.{length_digest, digest_of_small}
use Rattle.sha1_digest.specs.Constants.{initial}
use Rattle.sha1_digest.specs.Sha1.{mixed, round, compressed, sha1, DigestOfAbc}

pub length_sha1 : (m : List ℕ) → length (sha1 m) ≡ 20
length_sha1 m = length_digest initial round mixed 80 5 refl m 20 refl

pub sha1_small : (m : List ℕ) (k : ℕ) → slice_index (sha1 m) k < 256
sha1_small m k = digest_of_small initial compressed m k

pub digest_of_abc : DigestOfAbc
unfolding sums turned grown compression padded block digest_of round
digest_of_abc = refl
