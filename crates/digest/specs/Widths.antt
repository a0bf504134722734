-- How long a digest is, and that it is made of bytes.
use Rattle.std.proofs.Common.{◌≡◌, ℕ, zero, suc, ◌*◌, ◌/◌, ◌<◌, ◌≤◌, ◌⊎◌, inl, inr, List, [], ◌∷◌, length, get_or, refl, ap, ◌∙◌, arith}
use Rattle.std.specs.List.{flat_map}
use Rattle.std.proofs.lemmas.List.FromFn.{length-map-range_with_len}
use Rattle.digest.specs.Words.{be4, plus, sums}
use Rattle.digest.specs.Rounds.{turned, compression, rounds, schedule}
use Rattle.digest.specs.Message.{padded, block, chained, digest_of}

pub length_bytes : (ws : List ℕ) → length (flat_map be4 ws) ≡ 4 * length ws
length_bytes [] = refl
length_bytes (w ∷ ws) = omega (arith, length_bytes ws)

-- each is a byte
pub bytes_small : (ws : List ℕ) (k : ℕ) → get_or (flat_map be4 ws) k 0 < 256
bytes_small [] k = omega arith
bytes_small (w ∷ ws) zero = omega arith
bytes_small (w ∷ ws) (suc zero) = omega arith
bytes_small (w ∷ ws) (suc (suc zero)) = omega arith
bytes_small (w ∷ ws) (suc (suc (suc zero))) = omega arith
bytes_small (w ∷ ws) (suc (suc (suc (suc k)))) = bytes_small ws k

pub length_compression : (round : List ℕ → ℕ → ℕ → List ℕ) (mixed : (ℕ → ℕ) → ℕ) (n size : ℕ) (h block : List ℕ) → length (compression round mixed n size h block) ≡ size
unfolding compression sums
length_compression round mixed n size h block = length-map-range_with_len (λ i. plus (get_or (rounds round (schedule mixed n block) n h) i 0) (get_or h i 0)) 0 size

module _ (initial : List ℕ) (compressed : List ℕ → List ℕ → List ℕ) (size : ℕ) (first : length initial ≡ size) (kept : (h b : List ℕ) → length (compressed h b) ≡ size) (m : List ℕ) where
  length_chained : (bs : List ℕ) (n : ℕ) → length (chained initial compressed bs n) ≡ size
  unfolding turned
  length_chained bs zero = first
  length_chained bs (suc n) = kept (chained initial compressed bs n) (block bs n)

  pub length_digest_of : length (digest_of initial compressed m) ≡ 4 * size
  unfolding digest_of
  length_digest_of = length_bytes (chained initial compressed (padded m) (length (padded m) / 64)) ∙ ap (λ n. 4 * n) (length_chained (padded m) (length (padded m) / 64))

pub digest_of_small : (initial : List ℕ) (compressed : List ℕ → List ℕ → List ℕ) (m : List ℕ) (k : ℕ) → get_or (digest_of initial compressed m) k 0 < 256
unfolding digest_of
digest_of_small initial compressed m k = bytes_small (chained initial compressed (padded m) (length (padded m) / 64)) k

-- a digest of rounds has four bytes for each word
pub length_digest : (initial : List ℕ) (round : List ℕ → ℕ → ℕ → List ℕ) (mixed : (ℕ → ℕ) → ℕ) (n size : ℕ) → length initial ≡ size → (m : List ℕ) (width : ℕ) → 4 * size ≡ width → length (digest_of initial (compression round mixed n size) m) ≡ width
length_digest initial round mixed n size first m width e = length_digest_of initial (compression round mixed n size) size first (length_compression round mixed n size) m ∙ e

-- a digest of 20 or 32 bytes is made of at most eight words
pub size_small : (size width : ℕ) → (width ≡ 20) ⊎ (width ≡ 32) → 4 * size ≡ width → size ≤ 8
size_small size width either e = elim either [ inl short ↦ omega (arith, short, e) | inr long ↦ omega (arith, long, e) ]
