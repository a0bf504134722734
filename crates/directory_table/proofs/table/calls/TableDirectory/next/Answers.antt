use Rattle.std.proofs.Common.{◌≡◌, ◌≤◌, Some, None, length, sym, ap, ◌∙◌, arith, rules}
use Rattle.bytemap.specs.Map.{next_key}
use Rattle.naming.proofs.Keys.{valid_key_high}
use Rattle.directory.specs.Meaning.{contents}
use Rattle.directory_table.specs.Making.{table_meaning}
use Rattle.directory_table.proofs.NextKey.{nothing_next, found_next}
use Rattle.directory_table.proofs.table.calls.TableDirectory.next.Goals.{In_err-i, After-as_bytes-key}
use Rattle.directory_table.proofs.table.calls.TableDirectory.next.Goals as goal

nothing : (c : In_err-i) → next_key (contents c.args.container (table_meaning c.args.self.now).entries) c.args.above.now ≡ None
nothing c = nothing_next c.args.container c.args.above.now _ _ c.deref.ensures.value c.in_err-i.ensures

found : (c : After-as_bytes-key) → next_key (contents c.args.container (table_meaning c.args.self.now).entries) c.args.above.now ≡ Some c.as_bytes-key.result.now
found c =
    found_next c.args.container c.args.above.now _ _ c.deref.ensures.value c.in_ok-i.i c.in_ok-i.ensures c.index.result.now c.index.ensures
    ∙ ap Some (sym c.as_bytes-key.ensures)

pub slice_bounds-copy_from_slice-end : goal.slice_bounds-copy_from_slice-end
slice_bounds-copy_from_slice-end c =
    let key = c.index.result.now.at.key in
    let fits : length c.as_bytes-key.result.now ≤ 32 = rw c.as_bytes-key.ensures (valid_key_high key.bytes key.valid) in
    omega arith

pub returns-in_err-i-clause-value : goal.returns-in_err-i-clause-value
returns-in_err-i-clause-value c = rw (c.from_residual.ensures, nothing (goal.at.returns-in_err-i-clause-value c).In_err-i)

pub returns-in_err-i-clause-written : goal.returns-in_err-i-clause-written
returns-in_err-i-clause-written c = rw (nothing (goal.at.returns-in_err-i-clause-written c).In_err-i)

pub returns-clause-value : goal.returns-clause-value
returns-clause-value c = rw (found (goal.at.returns-clause-value c).After-as_bytes-key)

pub returns-clause-written : goal.returns-clause-written
returns-clause-written c = rw (found (goal.at.returns-clause-written c).After-as_bytes-key) (search rules)
