use Rattle.std.proofs.Common.{refl, arith, ltb-true}
use Rattle.naming.proofs.Names.{short_is_no_name, stamp_read}
use Rattle.naming.proofs.name.matching.stamp_of.Goals as goal

pub returns-in_default : goal.returns-in_default
returns-in_default c = short_is_no_name c.args.name.now (omega (arith, ltb-true))

pub returns : goal.returns
returns c = stamp_read c.args.name.now c.from_be_bytes.result _ c.from_be_bytes.ensures refl c.new.result c.new.ensures
