use Rattle.std.proofs.Common.{◌≤◌, [], None, length, sym, ap, ◌∙◌, arith, rules}
use Rattle.bytemap.specs.Map.{next_key, gathered}
use Rattle.bytemap.proofs.Next.{next_among}
use Rattle.cloud.proofs.Outcomes.{next_end, next_found}
use Rattle.cloud_fixed.proofs.Held.{next_name, next_short}
use Rattle.cloud_fixed.proofs.fixed.calls.FixedCloudCloud.next.Goals as goal

pub returns-in_default : goal.returns-in_default
returns-in_default c = next_end _ _ _ _ (ap (λ ps. next_key (gathered ps) c.args.above.now) (sym c.deref.ensures.value) ∙ next_among _ _ ([], []) None c.in_default.ensures)

pub slice_bounds-copy_from_slice-end : goal.slice_bounds-copy_from_slice-end
slice_bounds-copy_from_slice-end c =
    let h : length c.index.result.now.0 ≤ 39 = next_short _ _ c.deref.ensures.value _ _ c.in-Some.ensures _ c.index.ensures c.args.self.now.short in
    let l : length c.name-name.result.now ≤ 39 = omega (arith, ap length c.name-name.ensures) in
    search rules

pub returns : goal.returns
returns c =
    let found = next_name _ _ c.deref.ensures.value _ _ c.in-Some.ensures _ c.index.ensures in
    let short = next_short _ _ c.deref.ensures.value _ _ c.in-Some.ensures _ c.index.ensures c.args.self.now.short in
    next_found _ _ _ _ _ found short _ _ (ap length c.name-name.ensures) (let a = c.copy_from_slice.ensures.after in let b = c.name-name.ensures in cc)
