use Rattle.std.proofs.Common.{◌≡◌, length, get_or, sym, ap, ◌∙◌}
use Rattle.cloud_log.specs.Index.{name_of}
use Rattle.cloud_log.specs.Meaning.{log_meaning}
use Rattle.cloud.proofs.Outcomes.{next_end, next_found}
use Rattle.cloud_log.proofs.Calls.{no_next, next_at}
use Rattle.cloud_log.proofs.log_cloud.calls.LogCloudCloud.next.Goals as goal

pub returns-in_default : goal.returns-in_default
returns-in_default c =
    next_end (log_meaning c.args.self.now).held (log_meaning c.args.self.now).free c.args.above.now c.args.place.now
    (no_next c.args.self.now c.deref.result.now c.deref.ensures.value c.args.above.now c.in_default.ensures)

pub returns : goal.returns
returns c =
    let e = c.index.result.now in
    let is : e ≡ get_or c.deref.result.now c.in-Some.i e = c.index.ensures ∙ ap (λ x. get_or x c.in-Some.i e) (sym c.deref.ensures.value) in
    next_found (log_meaning c.args.self.now).held (log_meaning c.args.self.now).free c.args.above.now c.args.place.now (name_of e)
    (next_at c.args.self.now c.deref.result.now c.deref.ensures.value c.args.above.now c.in-Some.i e c.in-Some.ensures is)
    e.short _ _ (ap length c.name-name.ensures) (let n = c.name-name.ensures in let w = c.copy_from_slice.ensures.after in cc)
