use Rattle.std.proofs.Common.{◌≡◌, ℕ, ◌+◌, ◌*◌, ◌≤◌, true, is_ok, List, length, vec_items, vec_len, sym, ap, ◌∙◌, subst, arith}
use Rattle.std.specs.Vec.{with_items}
use Rattle.std.proofs.lemmas.List.{with_items_is}
use Rattle.entry.specs.Entries.{entry_value}
use Rattle.directory_table.specs.Making.{table_entries, table_meaning}
use Rattle.directory_table.specs.declared.keyed_entry.KeyedEntry.{KeyedEntry}
use Rattle.journal_record.specs.Layout.{longest_record}
use Rattle.journal_record.specs.Records.{RecordValue, ValidRecord, record_value}
use Rattle.directory_journal.specs.Capacity.{capacity}
use Rattle.directory_journal.specs.Records.{records_of, Stored}
use Rattle.directory_journal.specs.Replay.{accepts, replay}
use Rattle.directory_journal.specs.Same.{says}
use Rattle.directory_journal.proofs.Capacity.{table_keeps, table_capacity}
use Rattle.directory_journal.proofs.Same.{said, saying}
use Rattle.directory_journal.proofs.Stores.{stored_replays, refused_leaves}
use Rattle.directory_journal.proofs.journal.calls.JournalDirectory.commit.Goals as goal

-- ---- refused

pub invariant_of-self : goal.invariant_of-self
invariant_of-self c =
    let j = c.args.self.now in
    let e = c.commit.ensures.after ∙ refused_leaves (table_meaning j.index) _ _ _ _ c.in_err-commit.ensures.value in record {
      room = subst (λ q. (capacity q + 1) * longest_record ≤ vec_len j.bytes) (sym e) j.room;
      within = j.within;
      replays = subst (λ q. says (replay (capacity q) (vec_items j.bytes)) q j.used ≡ true) (sym e) j.replays;
    }

-- ---- stored

pub store-self-requires-clause-room : goal.store-self-requires-clause-room
store-self-requires-clause-room c =
    let j = c.args.self.now in
    let t = c.commit.new.self in
    let same = ap capacity c.commit.ensures.after ∙ table_keeps j.index _ _ _ in
    omega (arith, j.room, same, table_capacity t, t.used, t.entries.ok.0, c.as_mut_slice.ensures.len, ap length c.entries.ensures)

pub invariant_of-self-2 : goal.invariant_of-self-2
invariant_of-self-2 c =
    let j = c.args.self.now in
    let m = table_meaning j.index in
    let t = c.commit.new.self in
    let same : capacity (table_meaning t) ≡ capacity m = ap capacity c.commit.ensures.after ∙ table_keeps j.index _ _ _ in
    let r : RecordValue = record { container = c.args.at.now.container; key = c.args.at.now.key.bytes; entry = entry_value c.args.entry.now } in
    let valid : ValidRecord r = subst ValidRecord c.new-record.ensures.value c.new-record.ensures.valid in
    let accepting : accepts m r ≡ true = ap is_ok (sym c.in_ok-commit.ensures.value) in
    let end = c.store-self.result in
    let bytes = c.store-self.new.bytes in
    let s₁ = subst (λ (xs : List ℕ). Stored xs j.used (record_value c.new-record.result) (records_of c.entries.result.now) end bytes) c.as_mut_slice.ensures.value c.store-self.ensures in
    let s₂ = subst (λ (xs : List KeyedEntry). Stored (vec_items j.bytes) j.used (record_value c.new-record.result) (records_of xs) end bytes) c.entries.ensures s₁ in
    let stored = subst (λ q. Stored (vec_items j.bytes) j.used q (records_of (table_entries t)) end bytes) c.new-record.ensures.value s₂ in
    let long : length bytes ≡ vec_len j.bytes = stored.size ∙ sym j.bytes.ok.0 in
    let replays = stored_replays (capacity m) (vec_items j.bytes) m j.used (said _ m j.used j.replays) (omega (arith, j.within, j.bytes.ok.0)) r valid accepting t c.commit.ensures.after same end bytes stored in
    let again = ap (λ n. replay n (vec_items (with_items j.bytes bytes))) same ∙ ap (replay (capacity m)) (with_items_is j.bytes bytes long) ∙ replays in
    record {
      room = omega (arith, same, j.room);
      within = omega (arith, long, stored.within);
      replays = saying _ (table_meaning t) end again;
    }
