use Rattle.std.proofs.Common.{vec_items, sym, refl, subst, arith}
use Rattle.std.proofs.lemmas.Bool.Decides.{nat_tests}
use Rattle.cloud_log.specs.Sound.{Sound}
use Rattle.cloud_log.proofs.State.{sound_none, empty_meaning}
use Rattle.cloud_log.proofs.log_cloud.LogCloud.new.Goals as goal

pub invariant_of-result-clause-sound : goal.invariant_of-result-clause-sound
invariant_of-result-clause-sound c =
    let b = vec_items c.args.memory.bytes in
    subst (λ x. Sound b 0 x) (sym c.clear.ensures.items) (sound_none b)

pub returns : goal.returns
returns c = (grind (arith, nat_tests), empty_meaning c.args.places, refl)
