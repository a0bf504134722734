use Rattle.std.proofs.Common.{◌/◌, ◌^◌, eqb, sym, ap, ◌∙◌}
use Rattle.std.proofs.lemmas.Nat.{and_mask}
use Rattle.std.proofs.lemmas.Bool.{le-ltb}
use Rattle.entry.specs.Clouds.{lists}
use Rattle.entry.proofs.Lists.{past_the_list}
use Rattle.entry.proofs.clouds.CloudSet.has.Goals as goal

pub returns-then-cloud-lt-BITS : goal.returns-then-cloud-lt-BITS
returns-then-cloud-lt-BITS c =
    ap (λ b. eqb b 1) (and_mask (c.bits-bits.result / 2 ^ c.args.cloud) 1) ∙ ap (λ s. lists s c.args.cloud) c.bits-bits.ensures.value

pub returns-else-cloud-lt-BITS : goal.returns-else-cloud-lt-BITS
returns-else-cloud-lt-BITS c =
    le-ltb c.args.cloud 8 c.if-cloud-lt-BITS.false
    ∙ sym (past_the_list c.args.self.now c.args.cloud c.bits-bits.ensures.few c.if-cloud-lt-BITS.false)
