use Rattle.listing.proofs.Walk.{from_start}
use Rattle.listing.proofs.keys.LiveKeys.new.Goals as goal

pub returns-clause-left : goal.returns-clause-left
returns-clause-left g c = from_start _ (g.met.D.Directory.limited c.args.directory.now) c.args.container
