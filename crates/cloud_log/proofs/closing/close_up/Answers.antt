use Rattle.std.proofs.Common.{get_or, refl, arith, rules}
use Rattle.std.proofs.lemmas.List.{get_or_default}
use Rattle.cloud_log.proofs.ClosingUp.{Turn, turn, closing_none, closing_more, closing_all}
use Rattle.cloud_log.proofs.closing.close_up.Goals as goal
use Rattle.cloud_log.proofs.closing.close_up.Goals.{After-entry-item}

pub loop-entry-init : goal.loop-entry-init
loop-entry-init c = closing_none c.args.bytes.now c.args.index.now c.requires

-- the next record lies at `end` or later
next : (c : After-entry-item) → Turn c.loop-entry.bytes c.loop-entry.end (get_or c.loop-entry.index c.loop-entry.entry-index c.entry-item.result)
next c =
    let l = c.loop-entry in
    turn _ _ l.bytes l.index l.entry-index l.end l.invariant (omega arith) _ (get_or_default l.index l.entry-index c.entry-item.result _ (omega arith))

pub overflow_add-entry : goal.overflow_add-entry
overflow_add-entry c = let t = next (goal.at.overflow_add-entry c).After-entry-item in let u = t.until in search rules

pub copy_within-requires-clause-in_bounds : goal.copy_within-requires-clause-in_bounds
copy_within-requires-clause-in_bounds c = let t = next (goal.at.copy_within-requires-clause-in_bounds c).After-entry-item in omega (arith, t.until)

pub copy_within-requires-clause-dest_in_bounds : goal.copy_within-requires-clause-dest_in_bounds
copy_within-requires-clause-dest_in_bounds c = let t = next (goal.at.copy_within-requires-clause-dest_in_bounds c).After-entry-item in omega (arith, t.until, t.down)

pub overflow_add-end : goal.overflow_add-end
overflow_add-end c = let t = next (goal.at.overflow_add-end c).After-entry-item in let u = t.until in let d = t.down in search rules

pub loop-entry-preserved : goal.loop-entry-preserved
loop-entry-preserved c =
    let l = c.loop-entry in
    closing_more _ _ l.bytes l.index l.entry-index l.end l.invariant (omega arith) _ (get_or_default l.index l.entry-index c.entry-item.result _ (omega arith))
    _ _ _ c.record_size-size.ensures c.copy_within.ensures.after refl refl refl

pub returns : goal.returns
returns c = let l = c.loop-entry in closing_all _ _ l.bytes l.index l.entry-index l.end (omega arith) (omega arith) l.invariant
