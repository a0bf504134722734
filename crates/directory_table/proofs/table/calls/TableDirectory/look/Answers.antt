use Rattle.std.proofs.Common.{sym}
use Rattle.directory_table.proofs.Effects.{none_held, held}
use Rattle.directory_table.proofs.table.calls.TableDirectory.look.Goals as goal

pub returns-in_err-i-clause-value : goal.returns-in_err-i-clause-value
returns-in_err-i-clause-value c =
    rw c.from_residual.ensures (sym (none_held _ c.args.self.now.places _ _ _ c.deref.ensures.value c.in_err-i.ensures))

pub returns-clause-value : goal.returns-clause-value
returns-clause-value c =
    sym (held _ c.args.self.now.places _ _ _ c.deref.ensures.value c.args.self.now.distinct c.in_ok-i.i c.in_ok-i.ensures c.index.result.now c.index.ensures)
