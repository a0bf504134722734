-- What the reader answers, by what stands at the front of the bytes.
use Rattle.std.proofs.Common.{◌≡◌, ℕ, ◌+◌, ◌<◌, true, false, List, [], ◌∷◌, length, get_or, take, drop, Some, None, refl, arith}
use Rattle.journal_record.specs.Parse.{take_fields, in_limits, then, guard, parse, first_record}
use Rattle.journal_record.specs.Records.{RecordValue}

pub parse_short : (xs : List ℕ) → length xs < 2 → parse xs ≡ None
unfolding parse
parse_short [] h = refl
parse_short (a ∷ []) h = refl
parse_short (a ∷ b ∷ xs) h = absurd (omega arith)

-- the map, the key's length, and the fields
pub parse_front : (xs front fields : List ℕ) → front ≡ take 2 xs → fields ≡ drop 2 xs → length fields + 2 ≡ length xs
    → parse xs ≡ then (take_fields (get_or front 0 0) (get_or front 1 0) fields) (λ r rest. guard (in_limits r) (Some (r, rest)))
unfolding parse
parse_front [] front fields f d h = absurd (omega arith)
parse_front (a ∷ []) front fields f d h = absurd (omega arith)
parse_front (a ∷ b ∷ xs) front fields f d h = rw (f, d)

module _ (xs front fields : List ℕ) (split : (front ≡ take 2 xs) × (fields ≡ drop 2 xs) × (length fields + 2 ≡ length xs)) where
  pub no_fields : None ≡ take_fields (get_or front 0 0) (get_or front 1 0) fields → first_record xs ≡ None
  no_fields e = rw (parse_front xs front fields split.0 split.1 split.2, ← e)

  module _ (r : RecordValue) (rest : List ℕ) (e : Some (r, rest) ≡ take_fields (get_or front 0 0) (get_or front 1 0) fields) where
    pub past_limits : in_limits r ≡ false → first_record xs ≡ None
    past_limits l = rw (parse_front xs front fields split.0 split.1 split.2, ← e, l)

    pub within_limits : in_limits r ≡ true → parse xs ≡ Some (r, rest)
    within_limits l = rw (parse_front xs front fields split.0 split.1 split.2, ← e, l)
