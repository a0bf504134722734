use Rattle.std.proofs.Common.{◌≡◌, ◌-◌, Err, arith, rules}
use Rattle.entry.specs.Entries.{entry_value}
use Rattle.directory_table.proofs.Outcomes.{done, room_for_new}
use Rattle.directory_table.proofs.Effects.{not_added, added, added_different, not_replaced, replaced, replaced_different}
use Rattle.directory_table.proofs.table.calls.TableDirectory.commit.Goals as goal

-- ---- a new key

pub returns-in_err-commit_answer-in-None : goal.returns-in_err-commit_answer-in-None
returns-in_err-commit_answer-in-None c =
    let s = c.args.self.now in
    let told : c.from_residual.result ≡ Err c.in_err-commit_answer-in-None.field-0.0 = search rules in
    let p = not_added _ s.places _ _ _ c.deref.ensures.value c.in-None.ensures _ _ _ told (s.places - c.len.result, omega (arith, s.entries.ok.0), c.in_err-commit_answer-in-None.ensures) in
    record { value = p.0; after = p.1 }

pub invariant_of-self : goal.invariant_of-self
invariant_of-self c =
    let s = c.args.self.now in
    let room = room_for_new _ (entry_value c.args.entry.now) (done _ _ c.in_ok-commit_answer-in-None.ensures) in record {
      distinct = added_different _ s.places _ _ _ c.deref.ensures.value c.in-None.ensures s.distinct _ c.new-keyed.result c.new-keyed.ensures _ c.push_reserved.ensures.items;
      used = omega (arith, room);
      reserved = omega arith;
      some = s.some;
      few = s.few;
    }

pub returns-in_ok-commit_answer-in-None : goal.returns-in_ok-commit_answer-in-None
returns-in_ok-commit_answer-in-None c =
    let s = c.args.self.now in
    let p = added _ s.places _ _ _ c.deref.ensures.value c.in-None.ensures s.distinct _ c.new-keyed.result c.new-keyed.ensures _ c.push_reserved.ensures.items (s.places - c.len.result, omega (arith, s.entries.ok.0), done _ _ c.in_ok-commit_answer-in-None.ensures) in
    record { value = p.0; after = p.1 }

-- ---- a key with an entry

pub returns-in_err-commit_answer-in-Some : goal.returns-in_err-commit_answer-in-Some
returns-in_err-commit_answer-in-Some c =
    let s = c.args.self.now in
    let told : c.from_residual-in_err-commit_answer-in-Some.result ≡ Err c.in_err-commit_answer-in-Some.field-0.0 = search rules in
    let p = not_replaced _ s.places _ _ _ c.deref.ensures.value s.distinct c.in-Some.i c.in-Some.ensures c.index.result.now c.index.ensures _ _ _ told (s.places - c.len.result, omega (arith, s.entries.ok.0), c.in_err-commit_answer-in-Some.ensures) in
    record { value = p.0; after = p.1 }

pub invariant_of-self-in-Some : goal.invariant_of-self-in-Some
invariant_of-self-in-Some c =
    let s = c.args.self.now in record {
      distinct = replaced_different _ s.places _ _ _ c.deref.ensures.value s.distinct c.in-Some.i c.in-Some.ensures c.index.result.now c.index.ensures _ c.new-keyed.result c.new-keyed.ensures;
      used = s.used;
      reserved = s.reserved;
      some = s.some;
      few = s.few;
    }

pub returns-in_ok-commit_answer-in-Some : goal.returns-in_ok-commit_answer-in-Some
returns-in_ok-commit_answer-in-Some c =
    let s = c.args.self.now in
    let p = replaced _ s.places _ _ _ c.deref.ensures.value s.distinct c.in-Some.i c.in-Some.ensures c.index.result.now c.index.ensures _ c.new-keyed.result c.new-keyed.ensures (s.places - c.len.result, omega (arith, s.entries.ok.0), done _ _ c.in_ok-commit_answer-in-Some.ensures) in
    record { value = p.0; after = p.1 }
