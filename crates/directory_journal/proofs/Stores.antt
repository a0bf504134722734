-- What the bytes replay to after a record was stored.
use Rattle.std.proofs.Common.{◌≡◌, ℕ, ◌+◌, ◌≤◌, true, false, leb, List, ◌++◌, length, take, drop, Ok, Err, sym, ap, ◌∙◌, ⊎_elim, append_assoc, arith, length-append}
use Rattle.std.proofs.lemmas.List.{take-append-drop, length-take-le}
use Rattle.std.proofs.lemmas.Bool.{cases_Bool}
use Rattle.entry.specs.Entries.{EntryValue}
use Rattle.directory.specs.declared.interface.CommitError.{CommitError}
use Rattle.directory.specs.Meaning.{DirectoryMeaning}
use Rattle.directory.specs.Calls.{commit_answer, commit_after}
use Rattle.directory_table.specs.declared.table.Table.{Table}
use Rattle.directory_table.specs.Entries.{pairs}
use Rattle.directory_table.specs.Making.{table_entries, table_meaning}
use Rattle.bytemap.proofs.Pairs.{distinct_from}
use Rattle.journal_record.specs.Records.{RecordValue, ValidRecord}
use Rattle.journal_record.specs.Layout.{encode}
use Rattle.directory_journal.specs.Capacity.{capacity}
use Rattle.directory_journal.specs.Replay.{accepts, after_record, ended, replay}
use Rattle.directory_journal.specs.Records.{records_of, all_encoded, stored_bytes, Stored}
use Rattle.directory_journal.proofs.Capacity.{table_capacity}
use Rattle.directory_journal.proofs.Replaying.{at_end, one_record}
use Rattle.directory_journal.proofs.Journals.{records_make_a_journal, past_used}
use Rattle.directory_journal.proofs.InTurn.{entries_accepted, entries_make}

-- written anew from the entries of a table
pub rewritten : (t : Table) (rest : List ℕ) → ended rest ≡ true
    → replay (capacity (table_meaning t)) (all_encoded (records_of (table_entries t)) ++ rest) ≡ Ok (table_meaning t, length (all_encoded (records_of (table_entries t))))
rewritten t rest stops =
    let xs = table_entries t in
    let distinct = distinct_from (pairs xs) t.distinct in
    let few : length xs ≤ t.places = omega (arith, t.used, t.entries.ok.0) in
    let made = entries_make xs t.places distinct few in
    ap (λ n. replay n (all_encoded (records_of xs) ++ rest)) (table_capacity t)
    ∙ records_make_a_journal t.places (records_of xs) rest (entries_accepted xs t.places distinct few) stops
    ∙ ap (λ m. Ok (m, length (all_encoded (records_of xs)))) made

module _ (places : ℕ) (bytes : List ℕ) (m : DirectoryMeaning) (used : ℕ) (is : replay places bytes ≡ Ok (m, used)) (within : used ≤ length bytes)
    (r : RecordValue) (valid : ValidRecord r) (accepting : accepts m r ≡ true) (t : Table) (after : table_meaning t ≡ after_record m r) (same : capacity (table_meaning t) ≡ places)
    (end : ℕ) (bytes' : List ℕ) (stored : Stored bytes used r (records_of (table_entries t)) end bytes') where
  abbrev rest : List ℕ
  rest = drop end bytes'

  cut : bytes' ≡ stored_bytes bytes used r (records_of (table_entries t)) ++ rest
  cut = sym (take-append-drop end bytes') ∙ ap (λ xs. xs ++ drop end bytes') stored.records

  end_is : end ≡ length (stored_bytes bytes used r (records_of (table_entries t)))
  end_is = sym (length-take-le end bytes' stored.within) ∙ ap length stored.records

  appended : leb (used + length (encode r)) (length bytes) ≡ true → replay places bytes' ≡ Ok (table_meaning t, end)
  appended fits =
      let c : bytes' ≡ (take used bytes ++ encode r) ++ rest = cut ∙ rw fits in
      let n : end ≡ length (take used bytes ++ encode r) = end_is ∙ rw fits in
      let e : used + length (encode r) ≡ end = omega (arith, n, length-append (take used bytes) (encode r), length-take-le used bytes within) in
      let a = sym after in
      ap (replay places) (c ∙ append_assoc (take used bytes) (encode r) rest)
      ∙ past_used places bytes m used is (encode r ++ rest)
      ∙ one_record m r rest valid accepting used
      ∙ at_end (after_record m r) (used + length (encode r)) rest stored.marked
      ∙ (λ i. Ok (a i, e i))

  closed_up : leb (used + length (encode r)) (length bytes) ≡ false → replay places bytes' ≡ Ok (table_meaning t, end)
  closed_up full =
      let c : bytes' ≡ all_encoded (records_of (table_entries t)) ++ rest = cut ∙ rw full in
      let n : end ≡ length (all_encoded (records_of (table_entries t))) = end_is ∙ rw full in
      let s = sym same in
      (λ i. replay (s i) (c i)) ∙ rewritten t rest stored.marked ∙ ap (λ o. Ok (table_meaning t, o)) (sym n)

  pub stored_replays : replay places bytes' ≡ Ok (table_meaning t, end)
  stored_replays = ⊎_elim appended closed_up (cases_Bool (leb (used + length (encode r)) (length bytes)))

-- a commit that is refused leaves the directory
pub refused_leaves : (m : DirectoryMeaning) (c : ℕ) (k : List ℕ) (e : EntryValue) (why : CommitError) → Err why ≡ commit_answer m c k e → commit_after m c k e ≡ m
unfolding commit_after
refused_leaves m c k e why is = rw (← is)
