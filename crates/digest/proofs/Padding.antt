-- The words of blocks, and the bytes and the words of a padded message.
use Rattle.std.proofs.Common.{◌≡◌, ℕ, zero, suc, ◌+◌, ◌-◌, ◌*◌, ◌/◌, ◌%◌, ◌^◌, ◌<◌, ◌≤◌, ◌≢◌, List, [], ◌∷◌, ◌++◌, length, get_or, drop, set, replicate, sym, refl, ap, ◌∙◌, inl, inr, add-zero, zero-add, arith, lit<, below_none}
use Rattle.std.specs.Simd.{first_chunks}
use Rattle.std.proofs.lemmas.List.{append_assoc, length-append, length-replicate, get_or_append_left, get_or-append_right, get_or-append-add, get_or-replicate, get_or_past, length-set, get_or-set_same, get_or-set_other, get_or-drop, get_or-take, drop-append-le, take_at}
use Rattle.std.proofs.lemmas.Nat.{shr-shr, mod-pow-add}
use Rattle.std.proofs.Math.Nat.{mul-suc}
use Rattle.std.proofs.lemmas.List.FromFn.{get_or-map-range_with_len, fill_by_all}
use Rattle.std.proofs.lemmas.List.Edits.{fill_by_more}
use Rattle.std.proofs.lemmas.Bool.{cases_lt, cases_eq, cases_order}
use Rattle.digest.specs.Words.{be4, word}
use Rattle.digest.specs.Message.{be8, zeros, marked, ending, padded, PaddingRight, block}

pub length_padded : (m : List ℕ) → length (padded m) ≡ 64 * (length m / 64 + (length m % 64 + 72) / 64)
unfolding padded
length_padded m = simp (length-append, length-replicate) (omega arith)

pub padding_right : (m : List ℕ) → PaddingRight m
unfolding padded
padding_right m = record { begins = take_at m _ (length m) refl; whole = omega (arith, length_padded m); least = omega (arith, length_padded m) }

-- words, and blocks, of the same bytes
word_same : (xs ys : List ℕ) (i j : ℕ) → ((k : ℕ) → k < 4 → get_or xs (4 * i + k) 0 ≡ get_or ys (4 * j + k) 0) → word xs i ≡ word ys j
word_same xs ys i j same =
    let a = simp add-zero at (same 0 (lit< tt)) in
    let b = same 1 (lit< tt) in
    let c = same 2 (lit< tt) in
    let d = same 3 (lit< tt) in
    cc

pub block_filled : (m : List ℕ) (i : ℕ) (ws : List ℕ) → length ws ≡ 16 → ((t : ℕ) → t < 16 → get_or ws t 0 ≡ word m (16 * i + t)) → ws ≡ block m i
unfolding block
block_filled m i ws long same = fill_by_all (λ t. word m (16 * i + t)) ws 16 0 long same

pub block_same : (xs ys : List ℕ) (i j : ℕ) → ((k : ℕ) → k < 64 → get_or xs (64 * i + k) 0 ≡ get_or ys (64 * j + k) 0) → block xs i ≡ block ys j
unfolding block
block_same xs ys i j same =
    block_filled ys j (block xs i) refl
    (λ t low. get_or-map-range_with_len (λ t. word xs (16 * i + t)) 0 16 t t 0 low (zero-add t)
    ∙ word_same xs ys (16 * i + t) (16 * j + t)
    (λ k small.
    let left : 4 * (16 * i + t) + k ≡ 64 * i + (4 * t + k) = omega arith in
    let right : 4 * (16 * j + t) + k ≡ 64 * j + (4 * t + k) = omega arith in
    rw left (rw right (same (4 * t + k) (omega arith)))))

-- the bytes of a chunk
chunk_byte : (n count : ℕ) (xs : List ℕ) (i k : ℕ) → i < count → k < n → get_or (get_or (first_chunks n count xs) i []) k 0 ≡ get_or xs (n * i + k) 0
chunk_byte n zero xs i k below low = absurd (omega arith)
chunk_byte n (suc count) xs zero k below low = let e : n * 0 + k ≡ k = omega arith in rw e (get_or-take n xs k 0 low)
chunk_byte n (suc count) xs (suc i) k below low =
    let e : n + (n * i + k) ≡ n * suc i + k = omega (arith, mul-suc n i) in
    chunk_byte n count (drop n xs) i k (omega arith) low ∙ get_or-drop n xs (n * i + k) 0 ∙ ap (λ j. get_or xs j 0) e

pub chunk_word : (count : ℕ) (xs : List ℕ) (t : ℕ) → t < count → word (get_or (first_chunks 4 count xs) t []) 0 ≡ word xs t
chunk_word count xs t low = word_same (get_or (first_chunks 4 count xs) t []) xs 0 t (λ k small. rw zero-add (chunk_byte 4 count xs t k low small))

-- a block that the message fills
pub chunk_block : (m : List ℕ) (i : ℕ) → i < length m / 64 → block (get_or (first_chunks 64 (length m / 64) m) i []) 0 ≡ block (padded m) i
unfolding padded
chunk_block m i below =
    block_same (get_or (first_chunks 64 (length m / 64) m) i []) (padded m) 0 i
    (λ k low. rw zero-add (chunk_byte 64 (length m / 64) m i k below low) ∙ sym (get_or_append_left m _ 0 (64 * i + k) (omega arith)))

-- a block past those
pub ending_block : (m : List ℕ) (i : ℕ) → block (ending (drop (length m / 64 * 64) m) (length m)) i ≡ block (padded m) (length m / 64 + i)
unfolding padded
ending_block m i =
    let from = length m / 64 * 64 in
    let rest = ending (drop from m) (length m) in
    block_same rest (padded m) i (length m / 64 + i)
    (λ k low.
    let e : from + (64 * i + k) ≡ 64 * (length m / 64 + i) + k = omega arith in
    ap (λ bs. get_or bs (64 * i + k) 0) (sym (drop-append-le from m _ (omega arith))) ∙ get_or-drop from (padded m) (64 * i + k) 0 ∙ ap (λ j. get_or (padded m) j 0) e)

-- four digits to the base 256
word_digits : (x : ℕ) (rest : List ℕ) → word (be4 x ++ rest) 0 ≡ x % 2 ^ 32
word_digits x rest = omega (arith, shr-shr x 8 8, shr-shr x 16 8, mod-pow-add x 8 24, mod-pow-add x 8 16, mod-pow-add x 8 8)

-- the two words of a number in eight bytes
pub word_high : (x : ℕ) → word (be8 x) 0 ≡ x % 2 ^ 64 / 2 ^ 32
word_high x = word_digits (x / 2 ^ 32) (be4 x) ∙ omega arith

pub word_low : (x : ℕ) → word (be8 x) 1 ≡ x % 2 ^ 64 % 2 ^ 32
word_low x = word_digits x [] ∙ omega arith

-- what a message ends as: its last bytes with the mark, zeros, and the length
module _ (rest : List ℕ) (n : ℕ) where
  abbrev front : List ℕ
  front = marked rest ++ replicate (zeros n) 0

  length_front : length front ≡ length rest + 1 + zeros n
  length_front = simp (length-append, length-replicate) refl

  parts : ending rest n ≡ front ++ be8 (8 * n)
  parts = simp append_assoc

  -- before the length, a byte past the mark is 0
  byte_marked : (k : ℕ) → k < length rest + 1 + zeros n → get_or (marked rest) k 0 ≡ get_or (ending rest n) k 0
  byte_marked k h =
      let within : k < length front = omega (arith, length_front) in
      let long : length (marked rest) ≡ length rest + 1 = length-append rest (128 ∷ []) in
      sym (ap (λ bs. get_or bs k 0) parts ∙ get_or_append_left front _ 0 k within
      ∙ elim (cases_lt k (length rest + 1)) [
        | inl low ↦ get_or_append_left (marked rest) _ 0 k (omega arith)
        | inr high ↦
            let past : length (marked rest) ≤ k = omega arith in
            let zero_here : k - (length rest + 1) < zeros n = omega arith in
            get_or-append_right (marked rest) _ (length rest + 1) k 0 long high ∙ get_or-replicate (zeros n) (k - (length rest + 1)) 0 0 zero_here ∙ sym (get_or_past (marked rest) k 0 past)
      ])

  -- the last eight bytes are the length
  byte_length : (k : ℕ) → get_or (ending rest n) (length rest + 1 + zeros n + k) 0 ≡ get_or (be8 (8 * n)) k 0
  byte_length k = ap (λ l. get_or (ending rest n) (l + k) 0) (sym length_front) ∙ ap (λ bs. get_or bs (length front + k) 0) parts ∙ get_or-append-add front _ k 0

  word_marked : (j : ℕ) → 4 * j + 4 ≤ length rest + 1 + zeros n → word (marked rest) j ≡ word (ending rest n) j
  word_marked j h = word_same (marked rest) (ending rest n) j j (λ k low. byte_marked (4 * j + k) (omega arith))

  word_length : (j half : ℕ) → 4 * j ≡ length rest + 1 + zeros n + 4 * half → word (ending rest n) j ≡ word (be8 (8 * n)) half
  word_length j half e =
      word_same (ending rest n) (be8 (8 * n)) j half
      (λ k low. let at : 4 * j + k ≡ length rest + 1 + zeros n + (4 * half + k) = omega arith in ap (λ p. get_or (ending rest n) p 0) at ∙ byte_length (4 * half + k))

  -- a block before the length
  pub block_marked : (i : ℕ) → 64 * i + 64 ≤ length rest + 1 + zeros n → block (marked rest) i ≡ block (ending rest n) i
  block_marked i h = block_same (marked rest) (ending rest n) i i (λ k low. byte_marked (64 * i + k) (omega arith))

  -- the last block: the length stands in its last two words
  pub block_last : (i : ℕ) (ws : List ℕ) → ws ≡ block (marked rest) i → 64 * i + 56 ≡ length rest + 1 + zeros n
      → set (set ws 14 (word (be8 (8 * n)) 0)) 15 (word (be8 (8 * n)) 1) ≡ block (ending rest n) i
  unfolding block
  block_last i ws e last =
      let high = word (be8 (8 * n)) 0 in
      let low = word (be8 (8 * n)) 1 in
      let marks = block (marked rest) i in
      let wrote = set (set marks 14 high) 15 low in
      ap (λ xs. set (set xs 14 high) 15 low) e
      ∙ block_filled (ending rest n) i wrote refl
      (λ t below. elim (cases_eq t 15) [
        | inl at ↦ rw at (sym (word_length (16 * i + 15) 1 (omega arith)))
        | inr not_low ↦ get_or-set_other (set marks 14 high) 15 t low 0 not_low ∙ elim (cases_eq t 14) [
          | inl at ↦ rw at (sym (word_length (16 * i + 14) 0 (omega arith)))
          | inr not_high ↦
              get_or-set_other marks 14 t high 0 not_high ∙ get_or-map-range_with_len (λ t. word (marked rest) (16 * i + t)) 0 16 t t 0 below (zero-add t) ∙ word_marked (16 * i + t) (omega arith)
        ]
      ])

-- a word past the mark, and a block past it
word_past : (m : List ℕ) (j : ℕ) → length m + 1 ≤ 4 * j → word (marked m) j ≡ 0
word_past m j h = word_same (marked m) [] j 0 (λ k low. get_or_past (marked m) (4 * j + k) 0 (simp length-append (omega arith)))

pub block_past : (m : List ℕ) (i : ℕ) → length m + 1 ≤ 64 * i → block (marked m) i ≡ replicate 16 0
block_past m i h = sym (block_filled (marked m) i (replicate 16 0) refl (λ t low. get_or-replicate 16 t 0 0 low ∙ sym (word_past m (16 * i + t) (omega arith))))

-- a word before the mark, and the word in which the message ends
word_unmarked : (m : List ℕ) (j : ℕ) → 4 * j + 4 ≤ length m → word m j ≡ word (marked m) j
word_unmarked m j h = word_same m (marked m) j j (λ k low. sym (get_or_append_left m _ 0 (4 * j + k) (omega arith)))

pub word_end : (m : List ℕ) (j : ℕ) (tail : List ℕ) → tail ≡ drop (4 * j) m → 4 * j ≤ length m → word (marked tail) 0 ≡ word (marked m) j
word_end m j tail e h =
    word_same (marked tail) (marked m) 0 j
    (λ k low. ap (λ bs. get_or (marked bs) (4 * 0 + k) 0) e ∙ ap (λ bs. get_or bs (4 * 0 + k) 0) (sym (drop-append-le (4 * j) m (128 ∷ []) h)) ∙ get_or-drop (4 * j) (marked m) (4 * 0 + k) 0 ∙ ap (λ p. get_or (marked m) (4 * j + p) 0) (zero-add k))

-- sixteen words, of which the first t are those of m, and the others are 0
pub record Partly (m : List ℕ) (ws : List ℕ) (t : ℕ) : Type 0 where
  long : length ws ≡ 16
  front : (k : ℕ) → k < t → get_or ws k 0 ≡ word m k
  rest : (k : ℕ) → t ≤ k → get_or ws k 0 ≡ 0

pub partly_none : (m : List ℕ) → Partly m (replicate 16 0) 0
partly_none m =
    record {
      long = refl;
      front = below_none (λ k. get_or (replicate 16 0) k 0 ≡ word m k);
      rest = λ k _. elim (cases_lt k 16) [ inl low ↦ get_or-replicate 16 k 0 0 low | inr high ↦ get_or_past (replicate 16 0) k 0 high ];
    }

pub partly_more : (m : List ℕ) (ws : List ℕ) (t x : ℕ) → Partly m ws t → t < 16 → x ≡ word m t → Partly m (set ws t x) (t + 1)
partly_more m ws t x p low e =
    let within : t < length ws = omega (arith, p.long) in
    record {
      long = length-set ws t x ∙ p.long;
      front = rw e (fill_by_more (word m) ws t 0 within p.front);
      rest = λ k high. let other : k ≢ t = omega arith in get_or-set_other ws t k x 0 other ∙ p.rest k (omega arith);
    }

-- the block in which the message ends: its whole words, its end, and zeros
pub partly_end : (m ws : List ℕ) (t whole x : ℕ) → length m < 64 → whole ≡ length m / 4 → t ≡ whole → Partly m ws t → x ≡ word (marked m) (length m / 4) → set ws whole x ≡ block (marked m) 0
partly_end m ws t whole x short count all p e =
    let within : whole < length ws = omega (arith, p.long) in
    block_filled (marked m) 0 (set ws whole x) (length-set ws whole x ∙ p.long)
    (λ k low. rw zero-add (elim (cases_order k whole) [
      | inl at ↦ rw at (get_or-set_same ws whole x 0 within ∙ e ∙ ap (word (marked m)) (sym count))
      | inr (inl before) ↦
          let other : k ≢ whole = omega arith in
          get_or-set_other ws whole k x 0 other ∙ p.front k (omega arith) ∙ word_unmarked m k (omega arith)
      | inr (inr after) ↦
          let other : k ≢ whole = omega arith in
          get_or-set_other ws whole k x 0 other ∙ p.rest k (omega arith) ∙ sym (word_past m k (omega arith))
    ]))
