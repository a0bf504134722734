use Rattle.std.proofs.Common.{sym, ap, ◌∙◌, length, arith}
use Rattle.listing.proofs.Walk.{ends, gives, nearer, on, same_on, skips}
use Rattle.listing.proofs.keys.LiveKeysIterator.next.Goals as goal

pub returns-then-is_live : goal.returns-then-is_live
returns-then-is_live g c =
    let i = c.loop-key.invariant in
    let e = c.in-Some.ensures in
    let q = c.is_live.ensures in
    let first = sym i.left ∙ gives g.D.Directory.meaning g.met.D.Directory.limited e.same q.same q.last e.value c.if-is_live.ensures.value in
    let fewer = ap length first in
    record {
      steps = record { key = first; same = same_on _ i.same (on _ g.met.D.Directory.limited e.same q.same q.last e.value) };
      goes = record { on = λ f. (tt, tt, omega arith); keeps = tt; rests = λ f. tt };
    }

pub loop-key-smaller : goal.loop-key-smaller
loop-key-smaller g c =
    let e = c.in-Some.ensures in
    let q = c.is_live.ensures in
    nearer g.D.Directory.meaning g.met.D.Directory.limited e.same q.same q.last e.value

pub loop-key-preserved : goal.loop-key-preserved
loop-key-preserved g c =
    let i = c.loop-key.invariant in
    let e = c.in-Some.ensures in
    let q = c.is_live.ensures in
    record {
      same = same_on _ i.same (on _ g.met.D.Directory.limited e.same q.same q.last e.value);
      left = sym (skips g.D.Directory.meaning g.met.D.Directory.limited e.same q.same q.last e.value c.if-is_live.ensures.value) ∙ i.left;
    }

pub returns-clause-steps : goal.returns-clause-steps
returns-clause-steps g c =
    let i = c.loop-key.invariant in
    let e = c.in_default.ensures in
    let none = ends _ e.same e.last e.value in
    record { key = (sym i.left ∙ none.0, none.1); same = same_on _ i.same e.same }
