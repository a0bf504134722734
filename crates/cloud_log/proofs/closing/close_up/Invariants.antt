use Rattle.cloud_log.proofs.ClosingUp.{Closing}
use Rattle.cloud_log.proofs.closing.close_up.Given as goal

abbrev pub invariant-loop-entry : goal.invariant-loop-entry
invariant-loop-entry l = Closing l.initial.bytes l.initial.index l.bytes l.index l.entry-index l.end
