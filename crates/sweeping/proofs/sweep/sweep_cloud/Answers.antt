use Rattle.std.proofs.Common.{refl, ap, ◌∙◌, sym, true≢false, arith}
use Rattle.std.proofs.lemmas.Result.{err_from_is_err_and}
use Rattle.naming.specs.Names.{name_of}
use Rattle.protocol.specs.Sweeping.{begin, next_refused}
use Rattle.sweeping.proofs.Asking.{ends, exceeds, falls, goes, passes, reaches, refused}
use Rattle.sweeping.proofs.sweep.sweep_cloud.Goals as goal
use Rattle.sweeping.proofs.sweep.sweep_cloud.Goals.{then-is_of+in_ok-drop, else-is_of}

pub loop-init : goal.loop-init
loop-init g c =
    let e = c.new-last.ensures.value ∙ ap (name_of c.args.at.now.container c.args.at.now.key.bytes) c.none.ensures in
    record { few = omega arith; going = rw e begin }

pub returns-in_err-name : goal.returns-in_err-name
returns-in_err-name g c =
    let p = err_from_is_err_and c.from_residual.result c.from_residual.ensures.1 in
    rw (p.1, p.2) (next_refused c.loop.invariant.going c.in_err-name.ensures.asked)

pub returns-in_default : goal.returns-in_default
returns-in_default g c = ends _ _ _ c.loop.invariant.going c.in_ok-name.ensures c.in_default.is

pub returns-then-not-is_before : goal.returns-then-not-is_before
returns-then-not-is_before g c = falls _ _ _ c.loop.invariant.going c.in_ok-name.ensures c.in-Some.is c.if-not-is_before.ensures

pub returns-then-not-is_before-2 : goal.returns-then-not-is_before-2
returns-then-not-is_before-2 g c =
    reaches _ _ _ c.loop.invariant.going c.in_ok-name.ensures c.in-Some.is c.if-not-is_before.ensures (omega arith) c.new-bound.ensures.value c.if-not-is_before-2.ensures

pub returns-in_err-drop : goal.returns-in_err-drop
returns-in_err-drop g c =
    let p = err_from_is_err_and c.from_residual-in_err-drop.result c.from_residual-in_err-drop.ensures.1 in
    rw (p.1, p.2) (refused _ _ _ c.loop.invariant.going c.in_ok-name.ensures c.in-Some.is c.if-not-is_before.ensures (omega arith) c.new-bound.ensures.value c.if-not-is_before-2.ensures
    c.as_bytes.ensures.value (c.if-is_of.ensures.0 refl) c.as_bytes-then-is_of.ensures.value c.in_err-drop.ensures)

pub loop-preserved : goal.loop-preserved
loop-preserved g c = elim c.if-is_of.branch [
  | then-is_of+in_ok-drop w ↦ rw (w.row-is, w.dropped-is) (record {
    few = omega arith;
    going = goes _ _ _ c.loop.invariant.going c.in_ok-name.ensures c.in-Some.is c.if-not-is_before.ensures (omega arith) c.new-bound.ensures.value c.if-not-is_before-2.ensures
        c.as_bytes.ensures.value (w.if-is_of.ensures.0 refl) w.as_bytes-then-is_of.ensures.value w.in_ok-drop.ensures;
  })
  | else-is_of w ↦ rw (w.row-is, w.dropped-is) (record {
    few = omega arith;
    going = passes _ _ _ c.loop.invariant.going c.in_ok-name.ensures c.in-Some.is c.if-not-is_before.ensures (omega arith) c.new-bound.ensures.value c.if-not-is_before-2.ensures
        c.as_bytes.ensures.value (λ is. true≢false (sym (w.if-is_of.ensures.1 is)));
  })
]

pub returns-in_err-next_name : goal.returns-in_err-next_name
returns-in_err-next_name g c =
    let p = err_from_is_err_and c.from_residual-in_err-next_name.result c.from_residual-in_err-next_name.ensures.1 in
    rw (p.1, p.2) (next_refused c.loop.invariant.going c.in_err-next_name.ensures.asked)

pub returns-in-None : goal.returns-in-None
returns-in-None g c = ends _ _ _ c.loop.invariant.going c.in_ok-next_name.ensures c.in-None.is

pub returns-in-Some-2 : goal.returns-in-Some-2
returns-in-Some-2 g c = exceeds _ _ _ c.loop.invariant.going c.in_ok-next_name.ensures c.in-Some-2.is (omega arith)
