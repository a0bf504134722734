use Rattle.std.proofs.Common.{refl, arith}
use Rattle.std.proofs.lemmas.Cmp.{same_from_slice_cmp}
use Rattle.std.proofs.lemmas.Bool.Decides.{nat_tests}
use Rattle.std.specs.Ordering.{is_le, nat_cmp}
use Rattle.byte_strings.specs.Order.{at_most}
use Rattle.naming.proofs.address.AddressOrdered.is_at_most.Goals as goal

pub returns : goal.returns
unfolding at_most
returns c =
    let keys = same_from_slice_cmp nat_cmp is_le at_most refl (λ _ _. refl) (λ _ _. refl) (λ x y xs ys o h. grind (arith, nat_tests)) c.args.self.now.key.bytes c.args.other.now.key.bytes _ refl in
    grind (arith, nat_tests)
