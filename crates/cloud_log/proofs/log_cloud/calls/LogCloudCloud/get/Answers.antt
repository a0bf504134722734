use Rattle.std.proofs.Common.{◌≡◌, Some, None, vec_items, sym, ap, ◌∙◌, arith}
use Rattle.std.proofs.lemmas.Result.{err_from_is_err_and}
use Rattle.refusal.specs.declared.Cause.TheVariants.{NotHeld}
use Rattle.cloud.proofs.Outcomes.{get_missing}
use Rattle.cloud_log.specs.Index.{names, Placed}
use Rattle.cloud_log.specs.Meaning.{log_meaning}
use Rattle.cloud_log.proofs.Changed.{not_found, found_value}
use Rattle.cloud_log.proofs.Calls.{placed, got}
use Rattle.cloud_log.proofs.log_cloud.calls.LogCloudCloud.get.Goals as goal
use Rattle.cloud_log.proofs.log_cloud.calls.LogCloudCloud.get.Goals.{In_ok-place}

pub returns-in_err-place : goal.returns-in_err-place
returns-in_err-place c =
    let s = c.args.self.now in
    let p = err_from_is_err_and c.from_residual.result c.from_residual.ensures.1 in
    let e : c.in_err-place.field-0.0 ≡ NotHeld = grind arith in
    let n : c.position.result ≡ None = grind arith in
    rw (p.1, p.2, e) (get_missing (log_meaning s).held (log_meaning s).free c.args.name.now c.args.part.now (not_found _ _ _ s.sound _ (placed s c.args.name.now c.deref.ensures.value (sym n ∙ c.position.ensures))))

found : (c : In_ok-place) → Placed (names (vec_items c.args.self.now.index)) c.args.name.now (Some c.in_ok-place.place)
found c =
    let i : c.position.result ≡ Some c.in_ok-place.place = grind arith in
    placed c.args.self.now c.args.name.now c.deref.ensures.value (sym i ∙ c.position.ensures)

pub returns : goal.returns
returns c =
    let s = c.args.self.now in
    got s c.args.name.now c.args.part.now c.value_at.result.now (found_value _ _ _ s.sound _ _ (found (goal.at.returns c).In_ok-place) ∙ ap Some (sym c.value_at.ensures)) _ _ c.write_value.ensures.answer c.write_value.ensures.written
