-- The chaining of the blocks of a padded message.
use Rattle.std.proofs.Common.{◌≡◌, ℕ, ◌+◌, ◌*◌, ◌/◌, ◌%◌, ◌<◌, ◌≤◌, List, length, drop, set, replicate, sym, ap, ◌∙◌, arith}
use Rattle.digest.specs.Words.{word}
use Rattle.digest.specs.Rounds.{turned}
use Rattle.digest.specs.Message.{be8, marked, ending, padded, block, chained}
use Rattle.digest.proofs.Turns.{turned_none, turned_more, turned_same, turned_on}
use Rattle.digest.proofs.Padding.{length_padded, ending_block, block_marked, block_past, block_last}

-- the length in bits of a message of n bytes, in the last two words of a block
abbrev pub with_length : ℕ → List ℕ → List ℕ
with_length n ws = set (set ws 14 (word (be8 (8 * n)) 0)) 15 (word (be8 (8 * n)) 1)

-- The blocks past those that the message fills, `rest` being what is left of its n bytes there. The length stands in the
-- block in which the message ends, or in one more.
module _ (compressed : List ℕ → List ℕ → List ℕ) (rest : List ℕ) (n : ℕ) (left : length rest ≡ n % 64) (ws : List ℕ) (ends : ws ≡ block (marked rest) 0) (h : List ℕ) where
  abbrev ended : List ℕ
  ended = turned (λ h i. compressed h (block (ending rest n) i)) h ((length rest + 72) / 64)

  pub ends_in_one : length rest < 56 → compressed h (with_length n ws) ≡ ended
  unfolding turned
  ends_in_one low =
      let count : (length rest + 72) / 64 ≡ 1 = omega (arith, left) in
      rw count (ap (compressed h) (block_last rest n 0 ws ends (omega (arith, left))))

  pub ends_in_two : 56 ≤ length rest → compressed (compressed h ws) (with_length n (replicate 16 0)) ≡ ended
  unfolding turned
  ends_in_two high =
      let count : (length rest + 72) / 64 ≡ 2 = omega (arith, left) in
      rw count
      (ap (λ b. compressed (compressed h b) (with_length n (replicate 16 0))) (ends ∙ block_marked rest n 0 (omega (arith, left)))
      ∙ ap (compressed (compressed h (block (ending rest n) 0))) (block_last rest n 1 (replicate 16 0) (sym (block_past rest 1 (omega (arith, left)))) (omega (arith, left))))

-- from the initial hash value to that after the last block
module _ (initial : List ℕ) (compressed : List ℕ → List ℕ → List ℕ) (m : List ℕ) where
  abbrev turn : List ℕ → ℕ → List ℕ
  turn h i = compressed h (block (padded m) i)

  pub chained_none : (h : List ℕ) → h ≡ initial → h ≡ chained initial compressed (padded m) 0
  chained_none h e = e ∙ turned_none turn initial

  pub chained_more : (h b : List ℕ) (i : ℕ) → h ≡ chained initial compressed (padded m) i → b ≡ block (padded m) i → compressed h b ≡ chained initial compressed (padded m) (i + 1)
  chained_more h b i e whole = ap (compressed h) whole ∙ turned_more turn initial i h e

  pub chained_all : (h rest : List ℕ) → h ≡ chained initial compressed (padded m) (length m / 64) → rest ≡ drop (length m / 64 * 64) m → length rest ≡ length m % 64
      → turned (λ h i. compressed h (block (ending rest (length m)) i)) h ((length rest + 72) / 64) ≡ chained initial compressed (padded m) (length (padded m) / 64)
  chained_all h rest e past left =
      let q = length m / 64 in
      let more = (length rest + 72) / 64 in
      let all : q + more ≡ length (padded m) / 64 = omega (arith, length_padded m, left) in
      let blocks : (h : List ℕ) (i : ℕ) → compressed h (block (ending rest (length m)) i) ≡ turn h (q + i) = λ h i. ap (λ r. compressed h (block (ending r (length m)) i)) past ∙ ap (compressed h) (ending_block m i) in
      turned_same (λ h i. compressed h (block (ending rest (length m)) i)) (λ h i. turn h (q + i)) h more blocks ∙ ap (λ h. turned (λ h i. turn h (q + i)) h more) e ∙ turned_on turn initial q more ∙ ap (turned turn initial) all
