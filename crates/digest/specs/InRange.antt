-- Rounds that are there for numbers in range alone, and what they compress and digest.
use Rattle.std.proofs.Common.{◌≡◌, ℕ, zero, suc, ◌/◌, ◌<◌, ◌≤◌, cond, List, nat_lt, length, get_or, refl, ap, ◌∙◌, arith}
use Rattle.std.proofs.lemmas.Bool.{lt-ltb}
use Rattle.std.specs.List.{flat_map}
use Rattle.digest.specs.Words.{be4, sums}
use Rattle.digest.specs.Rounds.{turned, rounds, schedule, compression}
use Rattle.digest.specs.Message.{padded, block, chained, digest_of}

-- the rounds below n, and past them the working variables as they are
abbrev pub in_range : ℕ → (List ℕ → ℕ → ℕ → List ℕ) → List ℕ → ℕ → ℕ → List ℕ
in_range n round v t w = cond (nat_lt t n) (round v t w) v

module _ (round : List ℕ → ℕ → ℕ → List ℕ) (mixed : (ℕ → ℕ) → ℕ) (n size : ℕ) where
  rounds_in_range : (ws h : List ℕ) (m : ℕ) → m ≤ n → rounds (in_range n round) ws m h ≡ rounds round ws m h
  unfolding turned
  rounds_in_range ws h zero most = refl
  rounds_in_range ws h (suc t) most =
      let low : t < n = omega arith in
      let v = rounds (in_range n round) ws t h in
      rw (lt-ltb t n low) (ap (λ v. round v t (get_or ws t 0)) (rounds_in_range ws h t (omega arith)))

  -- A block is compressed by the rounds below n alone.
  pub compression_in_range : (h block : List ℕ) → compression (in_range n round) mixed n size h block ≡ compression round mixed n size h block
  unfolding compression
  compression_in_range h block = ap (λ v. sums size v h) (rounds_in_range (schedule mixed n block) h n (omega arith))

  chained_in_range : (initial m : List ℕ) (k : ℕ) → chained initial (compression (in_range n round) mixed n size) m k ≡ chained initial (compression round mixed n size) m k
  unfolding turned
  chained_in_range initial m zero = refl
  chained_in_range initial m (suc k) =
      compression_in_range (chained initial (compression (in_range n round) mixed n size) m k) (block m k)
      ∙ ap (λ h. compression round mixed n size h (block m k)) (chained_in_range initial m k)

  -- So is a digest.
  pub digest_in_range : (initial m : List ℕ) → digest_of initial (compression (in_range n round) mixed n size) m ≡ digest_of initial (compression round mixed n size) m
  unfolding digest_of
  digest_in_range initial m = ap (flat_map be4) (chained_in_range initial (padded m) (length (padded m) / 64))
