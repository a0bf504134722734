use Rattle.sweeping.proofs.Asking.{said_at}
use Rattle.sweeping.proofs.Carried.{swept_meaning}
use Rattle.sweeping.proofs.sweep.sweep.Goals as goal

pub returns-clause-chain : goal.returns-clause-chain
returns-clause-chain g c = rw (said_at _ _ _ c.at_cloud.ensures) c.sweep_cloud.ensures

pub returns-clause-meaning : goal.returns-clause-meaning
returns-clause-meaning g c =
    let n = c.args.number in
    rw (said_at _ _ _ c.at_cloud.ensures) (swept_meaning g.R.Row.clouds n (λ s. g.met.R.Row.nexting s n) (λ s. g.met.R.Row.dropping s n) c.sweep_cloud.ensures)
