-- What is left where a record is written.
use Rattle.std.proofs.Common.{◌≡◌, ℕ, ◌+◌, ◌≤◌, true, List, length, Some, Option, ◌∙◌, arith}
use Rattle.std.proofs.lemmas.Bool.{and_from, le-leb}
use Rattle.std.proofs.lemmas.Bool.Decides.{nat_tests}
use Rattle.log_record.specs.Records.{Record, stored, valid, encoded}
use Rattle.log_record.specs.Written.{overwritten, Written}

module _ (bytes : List ℕ) (at : ℕ) (r : Record) where
  -- a valid record with room is written
  pub written_is : (answer : Option ℕ) (bytes' : List ℕ) → valid r ≡ true → at + length (encoded r) ≤ length bytes → Written bytes at r answer bytes'
      → (answer ≡ Some (at + length (encoded r))) × (bytes' ≡ overwritten bytes at (encoded r))
  written_is answer bytes' v l w =
      let t = and_from (valid r) _ v (le-leb (at + length (encoded r)) (length bytes) l) in
      (w.end ∙ rw t, w.after ∙ rw t)

pub stored_valid : (name value : List ℕ) → length name ≤ 39 → length value ≤ 1024 → valid (stored name value) ≡ true
stored_valid name value n v = grind (arith, nat_tests)
