use Rattle.std.proofs.Common.{◌≡◌, Some, None, vec_items, sym, ◌∙◌, refl, arith}
use Rattle.std.proofs.lemmas.Result.{err_from_is_err_and}
use Rattle.refusal.specs.declared.Cause.TheVariants.{NotHeld}
use Rattle.cloud.proofs.Outcomes.{drop_missing}
use Rattle.log_record.specs.Records.{dropped}
use Rattle.log_record.proofs.ReadBack.{length_dropped}
use Rattle.cloud_log.specs.Index.{names, Placed}
use Rattle.cloud_log.specs.Meaning.{log_meaning}
use Rattle.cloud_log.proofs.State.{placed_short}
use Rattle.cloud_log.proofs.Changed.{not_found}
use Rattle.cloud_log.proofs.Calls.{placed, still_placed, drop_ok, still_logged}
use Rattle.cloud_log.proofs.log_cloud.calls.LogCloudCloud.drop.Goals as goal
use Rattle.cloud_log.proofs.log_cloud.calls.LogCloudCloud.drop.Goals.{In_ok-place}

pub returns-in_err-place : goal.returns-in_err-place
returns-in_err-place c =
    let s = c.args.self.now in
    let p = err_from_is_err_and c.from_residual.result c.from_residual.ensures.1 in
    let e : c.in_err-place.field-0.0 ≡ NotHeld = grind arith in
    let n : c.position.result ≡ None = grind arith in
    rw (p.1, p.2, e)
    (record {
      outcome = drop_missing (log_meaning s).held (log_meaning s).free c.args.name.now (not_found _ _ _ s.sound _ (placed s c.args.name.now c.deref.ensures.value (sym n ∙ c.position.ensures)));
      logged = record { same_memory = refl; appended = refl };
    })

found : (c : In_ok-place) → Placed (names (vec_items c.args.self.now.index)) c.args.name.now (Some c.in_ok-place.place)
found c =
    let i : c.position.result ≡ Some c.in_ok-place.place = grind arith in
    placed c.args.self.now c.args.name.now c.deref.ensures.value (sym i ∙ c.position.ensures)

pub make_room-requires : goal.make_room-requires
make_room-requires c = omega (arith, placed_short (vec_items c.args.self.now.index) c.args.name.now _ (found (goal.at.make_room-requires c).In_ok-place))

pub append_dropped-requires-clause-placed : goal.append_dropped-requires-clause-placed
append_dropped-requires-clause-placed c = still_placed _ _ _ c.make_room.ensures c.args.name.now (Some c.in_ok-place.place) (found (goal.at.append_dropped-requires-clause-placed c).In_ok-place)

pub returns : goal.returns
returns c =
    let s = c.args.self.now in
    let n = c.args.name.now in
    record {
      outcome = drop_ok s n _ (found (goal.at.returns c).In_ok-place) _ _ c.make_room.ensures c.append_dropped.ensures;
      logged = still_logged s _ _ _ (dropped n) c.make_room.ensures c.append_dropped.ensures (length_dropped n);
    }
