use Rattle.std.proofs.Common.{sym, ◌∙◌, arith}
use Rattle.cloud_faulty.proofs.Codes.{read_more, read_refused, read_all}
use Rattle.cloud_faulty.proofs.script.Script.read.Goals as goal

pub returns-in_err-ok : goal.returns-in_err-ok
returns-in_err-ok c =
    let none = sym c.try_from.ensures.0 ∙ sym c.ok.ensures.value ∙ c.in_err-ok.was in
    c.from_residual.ensures ∙ read_refused _ _ _ c.loop-code.invariant.read c.loop-code-test.true none

pub loop-code-preserved : goal.loop-code-preserved
loop-code-preserved c =
    let some = sym c.try_from.ensures.0 ∙ sym c.ok.ensures.value ∙ c.in_ok-ok.was in
    record { count = omega arith; read = rw c.push.ensures.items (read_more _ _ _ c.loop-code.invariant.read c.loop-code-test.true _ some) }

pub returns : goal.returns
returns c = read_all _ _ _ c.loop-code.invariant.read c.loop-code-test.false c.if-codes-gt-MOST_CODES.false
