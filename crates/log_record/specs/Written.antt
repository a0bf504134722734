-- What writing a record into bytes answers and leaves.
use Rattle.std.specs.Prelude.{◌≡◌, ℕ, ◌+◌, Bool, cond, ◌&&◌, List, ◌++◌, length, take, drop, Some, None, Option, nat_le}
use Rattle.log_record.specs.Records.{Record, valid, encoded}

-- bytes with a part written over them from `at` on
unfoldable pub overwritten : List ℕ → ℕ → List ℕ → List ℕ
overwritten bytes at part = take at bytes ++ (part ++ drop (at + length part) bytes)

-- Bytes that may be written, and for which there is room from `at` on, are written there, and the answer is where they
-- end. Others are not written.
pub record WrittenWhere (allowed : Bool) (part : List ℕ) (bytes : List ℕ) (at : ℕ) (answer : Option ℕ) (bytes' : List ℕ) : Type 0 where
  pub end : answer ≡ cond (allowed && nat_le (at + length part) (length bytes)) (Some (at + length part)) None
  pub after : bytes' ≡ cond (allowed && nat_le (at + length part) (length bytes)) (overwritten bytes at part) bytes

-- A record that is not valid or does not fit is not written.
abbrev pub Written : List ℕ → ℕ → Record → Option ℕ → List ℕ → Type 0
Written bytes at r answer bytes' = WrittenWhere (valid r) (encoded r) bytes at answer bytes'
