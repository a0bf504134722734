use Rattle.std.proofs.Common.{◌≡◌}
use Rattle.digest.specs.Message.{chained, padded}
use Rattle.digest.proofs.chain.digest_into.Given as goal

abbrev pub invariant-loop-bytes : goal.invariant-loop-bytes
invariant-loop-bytes g l = let k = g.C.Compression in k.hash l.state ≡ chained k.initial k.compressed (padded l.value) l.bytes-index
