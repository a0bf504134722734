-- A commit leaves the number of places.
use Rattle.std.proofs.Common.{◌≡◌, ℕ, ◌+◌, List, Some, None, Ok, Err, Option, sym, refl, ap, arith}
use Rattle.std.proofs.lemmas.List.{length-map}
use Rattle.bytemap.specs.Map.{Ascending}
use Rattle.bytemap.proofs.Find.{ascending_gathered}
use Rattle.bytemap.proofs.Pairs.{length_insert, length_insert_again, length_gathered, distinct_from}
use Rattle.entry.specs.Entries.{EntryValue}
use Rattle.directory.specs.Meaning.{DirectoryMeaning, address}
use Rattle.directory.specs.Calls.{Answer, entry_of, commit_answer, commit_after, when_committed}
use Rattle.directory_table.specs.declared.table.Table.{Table}
use Rattle.directory_table.specs.Entries.{pair, pairs}
use Rattle.directory_table.specs.Making.{table_entries, table_meaning}
use Rattle.directory_table.proofs.Outcomes.{room_for_new}
use Rattle.directory_journal.specs.Capacity.{capacity}

module _ (m : DirectoryMeaning) (ascending : Ascending m.entries) (c : ℕ) (k : List ℕ) (e : EntryValue) where
  by_entry : (o : Option EntryValue) → entry_of m c k ≡ o → (a : Answer) → commit_answer m c k e ≡ a → capacity (when_committed a m c k e) ≡ capacity m
  unfolding commit_answer
  by_entry o is (Err why) answer = refl
  by_entry None is (Ok t) answer =
      let room = room_for_new m.free e (sym (rw is at answer)) in
      rw is (omega (arith, length_insert m.entries (address c k) e is))
  by_entry (Some old) is (Ok t) answer =
      rw is (ap (λ n. n + m.free) (length_insert_again m.entries (address c k) e old ascending is))

  pub capacity_kept : capacity (commit_after m c k e) ≡ capacity m
  unfolding commit_after
  capacity_kept = by_entry (entry_of m c k) refl (commit_answer m c k e) refl

-- that of a table are its places
pub table_capacity : (t : Table) → capacity (table_meaning t) ≡ t.places
table_capacity t =
    omega (arith, t.used, t.entries.ok.0, length_gathered (pairs (table_entries t)) (distinct_from (pairs (table_entries t)) t.distinct), length-map (table_entries t) pair)

pub table_keeps : (t : Table) (c : ℕ) (k : List ℕ) (e : EntryValue) → capacity (commit_after (table_meaning t) c k e) ≡ capacity (table_meaning t)
table_keeps t c k e = capacity_kept (table_meaning t) (ascending_gathered (pairs (table_entries t))) c k e
