use Rattle.std.proofs.Common.{length, ap, ◌∙◌, arith}
use Rattle.naming.proofs.Keys.{valid_key_high}
use Rattle.listing.proofs.Walk.{few_keys, length_listing_more, measured_is}
use Rattle.listing.proofs.list.measure.Goals as goal

pub overflow_add-size : goal.overflow_add-size
overflow_add-size g c =
    let first = ap length c.in-Some.ensures.steps.key in
    omega (arith, c.loop-key.invariant.count, few_keys _ (g.met.D.Directory.limited c.args.directory.now) c.args.container)

pub overflow_add-size-in-loop-key-2 : goal.overflow_add-size-in-loop-key-2
overflow_add-size-in-loop-key-2 g c =
    let first = ap length c.in-Some.ensures.steps.key in
    omega (arith, c.loop-key.invariant.count, c.loop-key.invariant.few, few_keys _ (g.met.D.Directory.limited c.args.directory.now) c.args.container, c.len.ensures, valid_key_high _ c.in-Some.key.valid)

pub loop-key-preserved : goal.loop-key-preserved
loop-key-preserved g c =
    let i = c.loop-key.invariant in
    let s = c.in-Some.ensures.steps in
    let high = valid_key_high _ c.in-Some.key.valid in
    record {
      can = tt;
      ends = tt;
      name = s.same.directory ∙ i.name;
      same = s.same.meaning ∙ i.same;
      count = omega (arith, ap length s.key);
      bytes = omega (arith, length_listing_more _ _ _ s.key, c.len.ensures);
      few = omega (arith, c.len.ensures);
    }

pub returns-clause-value : goal.returns-clause-value
returns-clause-value g c =
    let i = c.loop-key.invariant in
    measured_is c.loop-key.size.count c.loop-key.size.bytes _ _ c.in-None.ensures.steps.key.0 i.count i.bytes
