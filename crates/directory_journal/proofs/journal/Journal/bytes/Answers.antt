use Rattle.directory_journal.proofs.Survives.{commits_survive}
use Rattle.directory_journal.proofs.journal.Journal.bytes.Goals as goal

pub returns-clause-survive : goal.returns-clause-survive
returns-clause-survive c = commits_survive
