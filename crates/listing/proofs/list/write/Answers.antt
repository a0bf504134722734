use Rattle.std.proofs.Common.{◌∙◌, arith}
use Rattle.listing.proofs.Walk.{length_listing_more, over_ends, over_on}
use Rattle.listing.proofs.list.write.Goals as goal

pub put_key-at-requires : goal.put_key-at-requires
put_key-at-requires g c = omega (arith, length_listing_more _ _ _ c.in-Some.ensures.steps.key)

pub loop-key-preserved : goal.loop-key-preserved
loop-key-preserved g c =
    let i = c.loop-key.invariant in
    let s = c.in-Some.ensures.steps in
    let p = c.split_at_mut-place.ensures in
    record {
      can = tt;
      ends = tt;
      name = s.same.directory ∙ i.name;
      same = s.same.meaning ∙ i.same;
      size = omega (arith, length_listing_more _ _ _ s.key, c.put_key-at.ensures.size);
      written = over_on _ _ _ _ _ _ _ _ _ p.value p.front_len c.put_key-at.ensures.size c.put_key-at.ensures.written s.key ∙ i.written;
    }

pub returns-clause-written : goal.returns-clause-written
returns-clause-written g c = over_ends c.loop-key.at _ _ c.in-None.ensures.steps.key.0 ∙ c.loop-key.invariant.written
