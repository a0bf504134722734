use Rattle.std.proofs.Common.{rules, sym}
use Rattle.std.proofs.lemmas.List.{get_or_past}
use Rattle.sha256.specs.Constants.{constants}
use Rattle.sha256.proofs.rounds.constant.Goals as goal

pub returns-then-t-lt64 : goal.returns-then-t-lt64
unfolding constants
returns-then-t-lt64 c = search rules

pub returns-else-t-lt64 : goal.returns-else-t-lt64
unfolding constants
returns-else-t-lt64 c = sym (get_or_past constants c.args.t 0 c.if-t-lt64.false)
