-- What writing a record to the front of bytes answers and leaves.
use Rattle.std.specs.Prelude.{◌≡◌, ℕ, Bool, cond, List, ◌++◌, length, drop, Some, None, Option, nat_le}
use Rattle.journal_record.specs.Records.{RecordValue}
use Rattle.journal_record.specs.Layout.{encode}

abbrev pub has_room : List ℕ → RecordValue → Bool
has_room out r = nat_le (length (encode r)) (length out)

-- The answer is the record's length, and the rest of the bytes stays. Where it does not fit nothing is written.
pub record Written (out : List ℕ) (r : RecordValue) (answer : Option ℕ) (out' : List ℕ) : Type 0 where
  pub len : answer ≡ cond (has_room out r) (Some (length (encode r))) None
  pub after : out' ≡ cond (has_room out r) (encode r ++ drop (length (encode r)) out) out
