use Rattle.std.proofs.Common.{◌≡◌, vec_items, vec_capacity, sym, refl, ap, ◌∙◌, arith}
use Rattle.directory_table.specs.Making.{table_meaning}
use Rattle.directory_journal.specs.Capacity.{capacity}
use Rattle.directory_journal.specs.Opening.{meaning_in}
use Rattle.directory_journal.specs.Replay.{replay_from}
use Rattle.directory_journal.proofs.Capacity.{table_capacity}
use Rattle.directory_journal.proofs.Openings.{from_empty}
use Rattle.directory_journal.proofs.Same.{saying}
use Rattle.directory_journal.proofs.journal.opening.open_with.Goals as goal

pub invariant_of-result : goal.invariant_of-result
invariant_of-result c =
    let first = table_meaning c.args.index in
    let after = table_meaning c.replay.new.index in
    let same : capacity after ≡ capacity first = c.in-Ok.ensures.places in
    let value = c.in-Ok.ensures.value in
    let bytes = ap (replay_from first 0 0) (sym c.as_slice.ensures.value) in
    let says = saying _ after c.in-Ok.used (from_empty first after (vec_items c.args.bytes) c.requires.empty same ∙ bytes ∙ value.0) in
    record {
      room = omega (arith, same, c.requires.room);
      within = omega (arith, value.1, c.as_slice.ensures.len);
      replays = says;
    }

pub returns-in-Err : goal.returns-in-Err
returns-in-Err c =
    let first = table_meaning c.args.index in
    let t = c.replay.new.index in
    let bytes = ap (replay_from first 0 0) (sym c.as_slice.ensures.value) in
    let room = ap vec_capacity c.into_memory.ensures in (
      ap meaning_in (from_empty first first (vec_items c.args.bytes) c.requires.empty refl ∙ bytes) ∙ c.in-Err.ensures.value,
      refl,
      omega (arith, c.in-Err.ensures.places, table_capacity t, t.reserved, room),
    )
