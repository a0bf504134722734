use Rattle.locker.proofs.Promised.{promised}
use Rattle.locker.proofs.locker.Locker.open.Goals as goal

pub returns-clause-promises : goal.returns-clause-promises
returns-clause-promises g c = λ empty. promised _ _ empty c.idle.ensures c.in-Some.ensures.1.1
