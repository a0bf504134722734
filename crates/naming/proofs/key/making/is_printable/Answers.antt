use Rattle.std.proofs.Common.{rules}
use Rattle.naming.proofs.Keys.{printable_where_all}
use Rattle.naming.proofs.key.making.is_printable.Goals as goal

pub returns : goal.returns
returns c = printable_where_all c.args.bytes.now c.all.result (search rules)
