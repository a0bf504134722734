use Rattle.std.proofs.Common.{◌≡◌, Some, None, Err, sym, ap, ◌∙◌, arith, rules}
use Rattle.refusal.specs.declared.Cause.TheVariants.{NotHeld}
use Rattle.bytemap.proofs.Pairs.{unplaced, placed}
use Rattle.cloud.proofs.Outcomes.{get_missing, get_found}
use Rattle.cloud_fixed.proofs.fixed.calls.FixedCloudCloud.get.Goals as goal

pub returns-in_err-i : goal.returns-in_err-i
returns-in_err-i c =
    let e : c.from_residual.result ≡ Err NotHeld = search rules in
    let n : None ≡ c.place_of.result = grind arith in
    rw e (get_missing _ _ _ _ (unplaced _ _ (n ∙ c.place_of.ensures)))

pub returns : goal.returns
returns c =
    let s : Some c.in_ok-i.i ≡ c.place_of.result = grind arith in
    let v : c.value.result.now ≡ (c.index.result.now).1 = c.value.ensures in
    get_found _ _ _ _ _ (placed _ _ _ (s ∙ c.place_of.ensures) c.args.self.now.distinct c.index.result.now ∙ ap (λ p. Some p.1) (sym c.index.ensures) ∙ ap Some (sym v)) _ _
    c.write_value.ensures.answer c.write_value.ensures.written
