use Rattle.std.proofs.Common.{refl, arith}
use Rattle.std.proofs.lemmas.Cmp.{same_from_slice_cmp_tested}
use Rattle.std.proofs.lemmas.Bool.Decides.{nat_tests}
use Rattle.std.specs.Ordering.{is_lt, nat_cmp}
use Rattle.byte_strings.specs.Order.{at_most, below}
use Rattle.naming_next.specs.NextKeyLaws.{upward_by}
use Rattle.naming_next.proofs.key_bound.KeyBoundBound.is_below.Goals as goal

pub returns : goal.returns
unfolding at_most
returns g c =
    let keys = same_from_slice_cmp_tested nat_cmp is_lt below refl (λ _ _. refl) (λ _ _. refl) (λ x y xs ys o h. grind (arith, nat_tests)) c.args.self.now.bytes.now c.as_bytes.result.now _ refl in record {
      value = grind (arith, nat_tests);
      upward = upward_by g.T.Addressed.at g.T.Ordered.le g.met.T.Addressed.in_order c.args.self.now;
    }
