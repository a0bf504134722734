use Rattle.std.proofs.Common.{refl}
use Rattle.entry.proofs.Valid.{entry_is_valid}
use Rattle.entry.proofs.entry.Entry.live.Goals as goal

pub returns : goal.returns
returns c = record { value = refl; valid = entry_is_valid c.args.self.now }
