-- Arrays of which the first bytes are in use, and which hold zeros past them.
use Rattle.std.proofs.Common.{◌≡◌, ℕ, ◌+◌, ◌-◌, ◌≤◌, List, ◌++◌, length, take, drop, replicate, sym, ap, ◌∙◌, arith}
use Rattle.std.proofs.lemmas.List.{append_assoc, length-append, length-take, length-drop, take_at, drop_at, drop-drop, drop-replicate}

pub length_held : (size n : ℕ) (xs : List ℕ) → n ≤ size → length xs ≡ size → length (take n xs) ≡ n
length_held size n xs fits whole = rw length-take (omega arith)

-- Bytes are written past the first n, which are in use.
module _ (size n : ℕ) (xs bs out : List ℕ) (fits : n + length bs ≤ size) (whole : length xs ≡ size) (padded : drop n xs ≡ replicate (size - n) 0) (written : out ≡ take n xs ++ (bs ++ drop (n + length bs) xs)) where
  abbrev end : ℕ
  end = n + length bs

  front : length (take n xs ++ bs) ≡ end
  front = simp (length-append, length-take) (omega arith)

  split : out ≡ (take n xs ++ bs) ++ drop end xs
  split = written ∙ sym (append_assoc (take n xs) bs (drop end xs))

  pub written_front : take end out ≡ take n xs ++ bs
  written_front = ap (take end) split ∙ take_at (take n xs ++ bs) (drop end xs) end front

  left : size - n - length bs ≡ size - end
  left = omega arith

  rest : drop end xs ≡ replicate (size - end) 0
  rest =
      sym (drop-drop (length bs) n xs)
      ∙ ap (drop (length bs)) padded
      ∙ drop-replicate (length bs) (size - n) 0
      ∙ ap (λ k. replicate k 0) left

  pub written_rest : drop end out ≡ replicate (size - end) 0
  written_rest = ap (drop end) split ∙ drop_at (take n xs ++ bs) (drop end xs) end front ∙ rest

  pub written_length : length out ≡ size
  written_length = ap length split ∙ simp (length-append, length-take, length-drop) (omega arith)

-- There are n bytes in use.
pub length_used : (size n : ℕ) (xs used : List ℕ) → n ≤ size → length xs ≡ size → take n xs ≡ used → length used ≡ n
length_used size n xs used fits whole is = sym (ap length is) ∙ length_held size n xs fits whole

-- There is as much room past the first n as past the bytes in use.
pub room_past : (size n more : ℕ) (xs used : List ℕ) → n ≤ size → length xs ≡ size → take n xs ≡ used → length used + more ≤ size → n + more ≤ size
room_past size n more xs used fits whole is room = omega (arith, room, length_used size n xs used fits whole is)
