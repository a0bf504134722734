-- A part written into bytes.
use Rattle.std.proofs.Common.{◌≡◌, ℕ, ◌+◌, ◌≤◌, List, ◌++◌, length, take, drop, ap, append_assoc, arith}
use Rattle.std.proofs.lemmas.Grind.{common_steps}
use Rattle.std.proofs.lemmas.List.{drop_at, drop-drop}
use Rattle.log_record.specs.Written.{overwritten}

module _ (bytes : List ℕ) (at : ℕ) (part : List ℕ) (room : at + length part ≤ length bytes) where
  pub take_overwritten : take (at + length part) (overwritten bytes at part) ≡ take at bytes ++ part
  unfolding overwritten
  take_overwritten = grind (arith, common_steps)

  drop_overwritten : drop (at + length part) (overwritten bytes at part) ≡ drop (at + length part) bytes
  unfolding overwritten
  drop_overwritten =
      let l : length (take at bytes ++ part) ≡ at + length part = grind (arith, common_steps) in
      rw (← append_assoc) (drop_at (take at bytes ++ part) _ _ l)

  pub length_overwritten : length (overwritten bytes at part) ≡ length bytes
  unfolding overwritten
  length_overwritten = grind (arith, common_steps)

  -- past the part, and further on
  pub rest_overwritten : (n : ℕ) → drop (at + length part + n) (overwritten bytes at part) ≡ drop (at + length part + n) bytes
  rest_overwritten n = let d = drop_overwritten in rw (← drop-drop n, ← drop-drop n) (ap (drop n) d)
