use Rattle.std.proofs.Common.{◌≡◌, take, vec_items}
use Rattle.checksum.specs.Line.{escaped}
use Rattle.checksum.proofs.escape_name.Given as goal

abbrev pub invariant-loop-b : goal.invariant-loop-b
invariant-loop-b l = vec_items l.text ≡ escaped (take l.b-index l.name)
