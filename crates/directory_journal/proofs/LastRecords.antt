-- Of accepted records each key's last one counts.
use Rattle.std.proofs.Common.{◌≡◌, ℕ, true, false, cond, List, [], ◌∷◌, is_ok, Some, Ok, Err, refl, ap, ◌∙◌}
use Rattle.std.specs.Str.{bytes_eq}
use Rattle.std.proofs.lemmas.Bool.{both_ways}
use Rattle.bytemap.specs.Map.{find}
use Rattle.bytemap.proofs.Find.{find_empty, find_insert}
use Rattle.directory.specs.Meaning.{DirectoryMeaning, address}
use Rattle.directory.specs.Calls.{Answer, commit_answer, commit_after, when_committed}
use Rattle.journal_record.specs.Records.{RecordValue}
use Rattle.directory_journal.specs.Replay.{empty_directory, accepts, after_record}
use Rattle.directory_journal.specs.Records.{AllAccepted, after_records}
use Rattle.directory_journal.specs.Laws.{last_entry, LastRecordsCount, JournalLaws}
use Rattle.directory_journal.proofs.Journals.{records_make_a_journal, journals_are_records}

found_after : (m : DirectoryMeaning) (r : RecordValue) (a : List ℕ) → accepts m r ≡ true
    → find (after_record m r).entries a ≡ cond (bytes_eq (address r.container r.key) a) (Some r.entry) (find m.entries a)
unfolding commit_after
found_after m r a h = by (commit_answer m r.container r.key r.entry) h
  where
    by : (c : Answer) → is_ok c ≡ true
        → find (when_committed c m r.container r.key r.entry).entries a ≡ cond (bytes_eq (address r.container r.key) a) (Some r.entry) (find m.entries a)
    by (Ok t) h = find_insert m.entries (address r.container r.key) r.entry a
    by (Err why) h = absurd (both_ways false refl h)

last_counts : (m : DirectoryMeaning) (rs : List RecordValue) → AllAccepted m rs → (a : List ℕ) → find (after_records m rs).entries a ≡ last_entry rs a (find m.entries a)
last_counts m [] accepting a = refl
last_counts m (r ∷ rs) accepting a =
    last_counts (after_record m r) rs accepting.2 a ∙ ap (last_entry rs a) (found_after m r a accepting.1)

last_records_count : LastRecordsCount
last_records_count places rs accepting a = last_counts (empty_directory places) rs accepting a ∙ ap (last_entry rs a) (find_empty a)

pub journal_laws : JournalLaws
journal_laws = (records_make_a_journal, journals_are_records, last_records_count)
