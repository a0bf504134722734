-- The item is smaller than the best so far; the other returns are found by the search for proofs.
use Rattle.std.proofs.Common.{ℕ, ◌<◌, length, Some, Option, sym, subst, arith}
use Rattle.std.proofs.lemmas.List.{get_or_read}
use Rattle.byte_strings.specs.Least.{Least}
use Rattle.byte_strings.proofs.Least.{least_take}
use Rattle.byte_strings.proofs.successor.better.Goals as goal

pub returns : goal.returns
returns g c =
    let le = g.T.Ordered.le in
    let xs = c.args.items.now in
    let i = c.args.i in
    let passes = g.B.Bound.above c.args.bound.now in
    let Q : Option ℕ → Type 0 = λ r. Least passes le xs i r in
    let inv : Q (Some c.in-Some.b) = subst Q c.in-Some.is c.requires.before in
    let lt : c.in-Some.b < length xs = omega (arith, inv.within) in
    least_take passes le g.met.T.Ordered.ordered xs i c.in-Some.b c.index-items-i.result c.index-items-b.result (get_or_read xs i _ c.requires.within c.index-items-i.is) (get_or_read xs _ _ lt c.index-items-b.is) inv (sym c.if-is_at_most.ensures) (sym c.if-not-is_below.ensures.value)
