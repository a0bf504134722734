use Rattle.std.proofs.Common.{◌≡◌, true, cond, ltb, sym, ap, ◌∙◌, arith}
use Rattle.std.proofs.lemmas.Bool.{lt-ltb}
use Rattle.entry.specs.Clouds.{with_cloud}
use Rattle.entry.proofs.Sets.{with_few, with_is}
use Rattle.entry.proofs.clouds.CloudSet.with.Goals as goal

pub returns-clause-value : goal.returns-clause-value
returns-clause-value c =
    let small : ltb c.args.cloud 7 ≡ true = lt-ltb c.args.cloud 7 (omega arith) in
    with_is c.bits-bits.result c.args.cloud (omega arith)
    ∙ ap (λ s. with_cloud s c.args.cloud) c.bits-bits.ensures.value
    ∙ sym (ap (λ b. cond b (with_cloud c.args.self.now c.args.cloud) c.args.self.now) small)

pub returns-clause-few : goal.returns-clause-few
returns-clause-few c =
    with_few c.bits-bits.result c.args.cloud (omega (arith, c.bits-bits.ensures.value, c.bits-bits.ensures.few)) (omega arith)

pub invariant_of-result : goal.invariant_of-result
invariant_of-result c =
    with_few c.bits-bits.result c.args.cloud (omega (arith, c.bits-bits.ensures.value, c.bits-bits.ensures.few)) (omega arith)
