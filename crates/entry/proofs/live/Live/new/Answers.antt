use Rattle.std.proofs.Common.{sym, arith}
use Rattle.std.proofs.lemmas.Bool.{and_right}
use Rattle.digest.specs.Value.{digest_bytes}
use Rattle.entry.proofs.Bytes.{digest_from_slice, no_digest_from_slice}
use Rattle.entry.proofs.live.Live.new.Goals as goal

pub returns-in_err-from_bytes : goal.returns-in_err-from_bytes
returns-in_err-from_bytes c =
    rw c.from_residual-in_err-from_bytes.ensures (and_right _ _ (no_digest_from_slice c.args.digest.now (sym c.in_err-from_bytes.ensures)))

pub invariant_of-result : goal.invariant_of-result
invariant_of-result c =
    let e = digest_from_slice c.args.digest.now (digest_bytes c.in_ok-from_bytes.field-0) c.type_inv.digest c.in_ok-from_bytes.ensures in
    let bits = c.in_ok-from_bits.ensures.found in
    record {
      listed = omega (arith, bits.0, c.if-clouds-eq0.false);
      few = omega (arith, bits.0, bits.1);
      sized = c.if-size-gt-LONGEST_VALUE.false;
      wide = e.1;
    }
