use Rattle.std.proofs.Common.{sym, inl, inr}
use Rattle.log_record.specs.Records.{stored}
use Rattle.log_record.proofs.ReadBack.{length_stored}
use Rattle.cloud_log.specs.Meaning.{log_meaning}
use Rattle.cloud.proofs.Outcomes.{put_too_long}
use Rattle.cloud_log.proofs.Calls.{placed, full, still_placed, still_place, put_ok, still_logged}
use Rattle.cloud_log.proofs.log_cloud.calls.LogCloudCloud.put.Goals as goal

pub returns-then-name-gt-LONGEST_NAME-clause-outcome : goal.returns-then-name-gt-LONGEST_NAME-clause-outcome
returns-then-name-gt-LONGEST_NAME-clause-outcome c =
    let m = log_meaning c.args.self.now in
    put_too_long m.held m.free c.args.name.now c.args.value.now (elim c.then-name-gt-LONGEST_NAME.either [ inl h ↦ inl h | inr h ↦ inr h.1 ])

pub returns-then-not-has_place-clause-outcome : goal.returns-then-not-has_place-clause-outcome
returns-then-not-has_place-clause-outcome c =
    let s = c.args.self.now in
    let a = placed s c.args.name.now c.deref.ensures.value c.position-place.ensures in
    full s c.args.name.now c.args.value.now c.if-name-gt-LONGEST_NAME.false c.if-value-gt-LONGEST_VALUE.false _ a (sym c.if-not-has_place.ensures)

pub append_stored-requires-clause-placed : goal.append_stored-requires-clause-placed
append_stored-requires-clause-placed c =
    let s = c.args.self.now in
    still_placed s _ _ c.make_room.ensures c.args.name.now c.position-place.result (placed s c.args.name.now c.deref.ensures.value c.position-place.ensures)

pub append_stored-requires-clause-free : goal.append_stored-requires-clause-free
append_stored-requires-clause-free c = still_place c.args.self.now _ _ c.make_room.ensures c.args.name.now c.position-place.result (sym c.if-not-has_place.ensures)

pub returns : goal.returns
returns c =
    let s = c.args.self.now in
    let n = c.args.name.now in
    let v = c.args.value.now in
    let a = placed s n c.deref.ensures.value c.position-place.ensures in
    record {
      outcome = put_ok s n v c.if-name-gt-LONGEST_NAME.false c.if-value-gt-LONGEST_VALUE.false _ a (sym c.if-not-has_place.ensures) _ _ c.make_room.ensures c.append_stored.ensures;
      logged = still_logged s _ _ _ (stored n v) c.make_room.ensures c.append_stored.ensures (length_stored n v);
    }
