use Rattle.std.proofs.Common.{◌≡◌, ◌+◌, ◌*◌, ◌<◌, ◌≤◌, length, Err, vec_items, vec_capacity, sym, refl, ap, ◌∙◌, arith}
use Rattle.directory_table.specs.Making.{table_meaning}
use Rattle.journal_record.specs.Layout.{longest_record}
use Rattle.directory_journal.specs.Capacity.{capacity}
use Rattle.directory_journal.proofs.LastRecords.{journal_laws}
use Rattle.directory_journal.proofs.Openings.{too_few_bytes, not_supported, can_be_opened, opens_from}
use Rattle.directory_journal.proofs.journal.Journal.open.Goals as goal

pub returns-then-len-places : goal.returns-then-len-places
returns-then-len-places c =
    let short : length (vec_items c.args.memory.bytes) < (c.args.places + 1) * longest_record = omega (arith, c.args.memory.bytes.ok.0, c.len.ensures, c.if-len-places.true) in
    record {
      value = (too_few_bytes c.args.places (vec_capacity c.args.memory.index) (vec_items c.args.memory.bytes) short, refl, λ h. h);
      laws = journal_laws;
    }

pub returns-in-Err : goal.returns-in-Err
returns-in-Err c =
    let e = c.in-Err.ensures in
    let room = ap vec_capacity e.2 in
    record {
      value = (not_supported c.args.places (vec_capacity c.args.memory.index) (vec_items c.args.memory.bytes) e.0 ∙ ap Err (sym e.1), refl, λ h. omega (arith, room, h));
      laws = journal_laws;
    }

pub returns-in-Ok : goal.returns-in-Ok
returns-in-Ok c =
    let e = c.in-Ok.ensures in
    let room : (c.args.places + 1) * longest_record ≤ length (vec_items c.args.memory.bytes) = omega (arith, c.args.memory.bytes.ok.0, c.len.ensures, c.if-len-places.false) in
    let places : capacity (table_meaning c.in-Ok.index) ≡ c.args.places = ap capacity e.1 ∙ (let z : 0 + c.args.places ≡ c.args.places = omega arith in z) in
    record {
      value = opens_from c.args.memory c.args.places (capacity (table_meaning c.in-Ok.index)) places (can_be_opened _ _ _ e.0 room) _ c.open_with.ensures;
      laws = journal_laws;
    }
