use Rattle.std.proofs.Common.{vec_capacity, ap, arith}
use Rattle.directory_journal.proofs.Capacity.{table_capacity}
use Rattle.directory_journal.proofs.Survives.{opened_again, commits_survive}
use Rattle.directory_journal.proofs.journal.Journal.close.Goals as goal

pub returns-clause-again : goal.returns-clause-again
returns-clause-again c =
    let j = c.args.self in
    let room = ap vec_capacity c.into_memory.ensures in
    opened_again j (vec_capacity c.into_memory.result) (omega (arith, room, table_capacity j.index, j.index.reserved))

pub returns-clause-survive : goal.returns-clause-survive
returns-clause-survive c = commits_survive
