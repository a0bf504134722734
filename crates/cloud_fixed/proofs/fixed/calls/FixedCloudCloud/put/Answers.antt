use Rattle.std.proofs.Common.{◌-◌, ◌∷◌, [], length-set, length-append, length, ap, ◌∙◌, inl, inr, arith}
use Rattle.bytemap.specs.Map.{gathered}
use Rattle.bytemap.proofs.Pairs.{unplaced, placed, gathered_set, different_set, gathered_push, different_push}
use Rattle.cloud.proofs.Outcomes.{put_too_long, put_full, put_new, put_again}
use Rattle.cloud_fixed.proofs.Held.{short_insert}
use Rattle.cloud_fixed.proofs.fixed.calls.FixedCloudCloud.put.Goals as goal

pub returns-then-name-gt-LONGEST_NAME : goal.returns-then-name-gt-LONGEST_NAME
returns-then-name-gt-LONGEST_NAME c =
    put_too_long _ _ _ _ (elim c.then-name-gt-LONGEST_NAME.either [ inl h ↦ inl h | inr h ↦ inr h.1 ])

pub invariant_of-self-clause-distinct : goal.invariant_of-self-clause-distinct
invariant_of-self-clause-distinct c = different_set _ _ _ c.in-Some.ensures c.args.self.now.distinct _ _ c.new.ensures

pub invariant_of-self-clause-short : goal.invariant_of-self-clause-short
invariant_of-self-clause-short c =
    let s = c.args.self.now in
    short_insert _ _ s.short _ c.if-name-gt-LONGEST_NAME.false c.if-value-gt-LONGEST_VALUE.false _ (gathered_set _ _ _ c.in-Some.ensures s.distinct _ _ c.new.ensures)

pub returns-in-Some : goal.returns-in-Some
returns-in-Some c =
    let s = c.args.self.now in
    put_again _ _ _ _ c.if-name-gt-LONGEST_NAME.false c.if-value-gt-LONGEST_VALUE.false _ (placed _ _ _ c.in-Some.ensures s.distinct c.new.result) _ _
    (gathered_set _ _ _ c.in-Some.ensures s.distinct _ _ c.new.ensures) (ap (λ n. s.limit - n) (length-set s.places.items c.in-Some.i c.new.result))

pub returns-then-len-self : goal.returns-then-len-self
returns-then-len-self c =
    put_full _ _ _ _ c.if-name-gt-LONGEST_NAME.false c.if-value-gt-LONGEST_VALUE.false (unplaced _ _ c.in_default.ensures)
    (omega (arith, c.args.self.now.places.ok.0))

pub invariant_of-self-2-clause-distinct : goal.invariant_of-self-2-clause-distinct
invariant_of-self-2-clause-distinct c = rw c.push_reserved.ensures.items (different_push _ _ c.in_default.ensures _ _ c.new-2.ensures c.args.self.now.distinct)

pub invariant_of-self-2-clause-short : goal.invariant_of-self-2-clause-short
invariant_of-self-2-clause-short c =
    rw c.push_reserved.ensures.items
    (short_insert _ _ c.args.self.now.short _ c.if-name-gt-LONGEST_NAME.false c.if-value-gt-LONGEST_VALUE.false _ (gathered_push _ _ c.in_default.ensures _ _ c.new-2.ensures))

pub returns : goal.returns
returns c =
    put_new _ _ _ _ c.if-name-gt-LONGEST_NAME.false c.if-value-gt-LONGEST_VALUE.false (unplaced _ _ c.in_default.ensures) (omega (arith, c.args.self.now.places.ok.0)) _ _
    (ap gathered c.push_reserved.ensures.items ∙ gathered_push _ _ c.in_default.ensures _ _ c.new-2.ensures)
    (omega (arith, ap length c.push_reserved.ensures.items, length-append c.args.self.now.places.items (c.new-2.result ∷ [])))
