use Rattle.std.proofs.Common.{arith}
use Rattle.std.proofs.lemmas.Bool.Decides.{nat_tests}
use Rattle.naming.specs.Text.{valid_key}
use Rattle.naming.proofs.key.Key.new.Goals as goal
use Rattle.naming.proofs.key.Key.new.Goals.{then-is_empty-via-then-is_empty, then-is_empty-via-else-is_empty+then-bytes-gt-LONGEST, then-is_empty-via-else-is_empty+else-bytes-gt-LONGEST+then-not-is_printable}

pub returns-then-is_empty : goal.returns-then-is_empty
unfolding valid_key
returns-then-is_empty c = elim c.then-is_empty.branch [
  | then-is_empty-via-then-is_empty w ↦ let empty = w.if-is_empty.ensures in grind (arith, nat_tests)
  | then-is_empty-via-else-is_empty+then-bytes-gt-LONGEST w ↦ grind (arith, nat_tests)
  | then-is_empty-via-else-is_empty+else-bytes-gt-LONGEST+then-not-is_printable w ↦ let other = w.if-not-is_printable.ensures in grind (arith, nat_tests)
]

pub invariant_of-result : goal.invariant_of-result
unfolding valid_key
invariant_of-result c =
    let some = c.if-is_empty.ensures in
    let text = c.if-not-is_printable.ensures in
    let same = c.in_ok-text.ensures.found in
    record { valid = rw same.0 (grind (arith, nat_tests)) }
