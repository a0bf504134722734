-- The bytes of a journal, opened again, mean what the journal means.
use Rattle.std.proofs.Common.{◌≡◌, ℕ, ◌+◌, ◌*◌, ◌≤◌, List, [], ◌∷◌, length, Ok, Err, sym, refl, ap, ◌∙◌, arith}
use Rattle.bytemap.specs.Map.{Ascending}
use Rattle.bytemap.proofs.Find.{ascending_insert, ascending_gathered}
use Rattle.entry.specs.Entries.{EntryValue}
use Rattle.directory.specs.Meaning.{DirectoryMeaning, address}
use Rattle.directory.specs.Calls.{Answer, commit_answer, commit_after, when_committed}
use Rattle.directory_table.specs.Entries.{pairs}
use Rattle.directory_table.specs.Making.{table_entries}
use Rattle.journal_record.specs.Layout.{longest_record}
use Rattle.journal_record.specs.Records.{RecordValue}
use Rattle.directory_journal.specs.declared.journal.Journal.{Journal}
use Rattle.directory_journal.specs.Capacity.{capacity}
use Rattle.directory_journal.specs.Replay.{after_record}
use Rattle.directory_journal.specs.Records.{after_records}
use Rattle.directory_journal.specs.Meaning.{journal_meaning, journal_bytes, journal_places}
use Rattle.directory_journal.specs.Opening.{meaning_in, opened}
use Rattle.directory_journal.specs.Survival.{CommitsSurvive}
use Rattle.directory_journal.proofs.Capacity.{capacity_kept}
use Rattle.directory_journal.proofs.Openings.{can_be_opened, opened_is, supports}
use Rattle.directory_journal.proofs.Same.{said}

pub opened_again : (j : Journal) (room : ℕ) → journal_places j ≤ room → opened (journal_places j) room (journal_bytes j) ≡ Ok (journal_meaning j)
opened_again j room h =
    let bytes : (journal_places j + 1) * longest_record ≤ length (journal_bytes j) = omega (arith, j.room, j.bytes.ok.0) in
    opened_is (journal_places j) room (journal_bytes j) (can_be_opened _ _ _ (supports j.index room h) bytes)
    ∙ ap meaning_in (said _ (journal_meaning j) j.used j.replays)

-- ---- after commits

ascending_kept : (m : DirectoryMeaning) (c : ℕ) (k : List ℕ) (e : EntryValue) → Ascending m.entries → Ascending (commit_after m c k e).entries
unfolding commit_after
ascending_kept m c k e asc = by (commit_answer m c k e)
  where
    by : (a : Answer) → Ascending (when_committed a m c k e).entries
    by (Ok t) = ascending_insert m.entries (address c k) e asc
    by (Err why) = asc

places_kept : (m : DirectoryMeaning) (rs : List RecordValue) → Ascending m.entries → capacity (after_records m rs) ≡ capacity m
places_kept m [] asc = refl
places_kept m (r ∷ rs) asc =
    places_kept (after_record m r) rs (ascending_kept m r.container r.key r.entry asc)
    ∙ capacity_kept m asc r.container r.key r.entry

pub commits_survive : CommitsSurvive
commits_survive before after commits e room h =
    let asc = ascending_gathered (pairs (table_entries before.index)) in
    let same : journal_places after ≡ journal_places before = ap capacity e ∙ places_kept (journal_meaning before) commits asc in
    ap (λ n. opened n room (journal_bytes after)) (sym same) ∙ opened_again after room (omega (arith, same, h)) ∙ ap Ok e
