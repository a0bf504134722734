use Rattle.std.proofs.Common.{ap, ◌∙◌}
use Rattle.directory_journal.specs.Capacity.{capacity}
use Rattle.directory_journal.proofs.Capacity.{table_keeps}
use Rattle.directory_journal.proofs.replay.replay_one.Goals as goal

pub returns-in_err-ok-clause-places : goal.returns-in_err-ok-clause-places
returns-in_err-ok-clause-places c = ap capacity c.commit.ensures.after ∙ table_keeps c.args.index.now _ _ _

pub returns-clause-places : goal.returns-clause-places
returns-clause-places c = ap capacity c.commit.ensures.after ∙ table_keeps c.args.index.now _ _ _
