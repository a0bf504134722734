use Rattle.std.proofs.Common.{rules}
use Rattle.locker.proofs.Grounds.{kept_when_full}
use Rattle.locker.proofs.looking.commit_entry.Goals as goal

pub returns-in-Err-Full : goal.returns-in-Err-Full
returns-in-Err-Full g c = search (rules, kept_when_full)
