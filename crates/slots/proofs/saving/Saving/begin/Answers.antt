use Rattle.slots.proofs.Digests.{kind_fits}
use Rattle.slots.proofs.saving.Saving.begin.Goals as goal

pub invariant_of-result-clause-wide : goal.invariant_of-result-clause-wide
invariant_of-result-clause-wide g c =
    let kind = g.met.K.DigestKind in rw c.of-digest.ensures (kind_fits _ _ kind.widths (kind.wide _) (kind.bytes _))
