use Rattle.std.proofs.Common.{arith}
use Rattle.naming.proofs.Keys.{valid_key_high}
use Rattle.listing.proofs.list.put_key.Goals as goal

pub overflow_cast-place : goal.overflow_cast-place
overflow_cast-place c = omega (arith, c.len.ensures, valid_key_high _ c.args.key.now.valid)
