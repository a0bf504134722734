use Rattle.std.proofs.Common.{◌≡◌, Some, None, Err, ap, ◌∙◌, arith, rules}
use Rattle.refusal.specs.declared.Cause.TheVariants.{NotHeld}
use Rattle.bytemap.specs.Map.{gathered}
use Rattle.bytemap.proofs.Pairs.{unplaced, placed, gathered_without, different_without}
use Rattle.cloud.proofs.Outcomes.{drop_missing, drop_done}
use Rattle.cloud_fixed.proofs.Held.{short_remove}
use Rattle.cloud_fixed.proofs.fixed.calls.FixedCloudCloud.drop.Goals as goal

pub returns-in_err-i : goal.returns-in_err-i
returns-in_err-i c =
    let e : c.from_residual.result ≡ Err NotHeld = search rules in
    let n : None ≡ c.place_of.result = grind arith in
    rw e (drop_missing _ _ _ (unplaced _ _ (n ∙ c.place_of.ensures)))

pub invariant_of-self-clause-distinct : goal.invariant_of-self-clause-distinct
invariant_of-self-clause-distinct c =
    let h : Some c.in_ok-i.i ≡ c.place_of.result = grind arith in
    rw c.remove.ensures.items (different_without _ _ _ (h ∙ c.place_of.ensures) c.args.self.now.distinct c.remove.result)

pub invariant_of-self-clause-short : goal.invariant_of-self-clause-short
invariant_of-self-clause-short c =
    let s = c.args.self.now in
    let h : Some c.in_ok-i.i ≡ c.place_of.result = grind arith in
    rw c.remove.ensures.items (short_remove _ _ s.short _ (gathered_without _ _ _ (h ∙ c.place_of.ensures) s.distinct c.remove.result))

pub returns : goal.returns
returns c =
    let s = c.args.self.now in
    let h : Some c.in_ok-i.i ≡ c.place_of.result = grind arith in
    drop_done _ _ _ _ (placed _ _ _ (h ∙ c.place_of.ensures) s.distinct c.remove.result) _ _
    (ap gathered c.remove.ensures.items ∙ gathered_without _ _ _ (h ∙ c.place_of.ensures) s.distinct c.remove.result)
    (omega (arith, s.places.ok.0, c.remove.new.self.ok.0))
