-- A journal is records that are accepted in turn, and then its end.
use Rattle.std.proofs.Common.{◌≡◌, ℕ, zero, suc, ◌+◌, ◌≤◌, true, false, List, [], ◌∷◌, ◌++◌, length, take, Some, None, Ok, Err, Option, Result, sym, refl, ap, ◌∙◌, ⊎_elim, append_assoc, arith, length-append}
use Rattle.std.proofs.lemmas.List.{take_at}
use Rattle.std.proofs.lemmas.Bool.{cases_Bool}
use Rattle.directory.specs.Meaning.{DirectoryMeaning}
use Rattle.journal_record.specs.Records.{RecordValue}
use Rattle.journal_record.specs.Layout.{encode}
use Rattle.journal_record.proofs.OnlyRecords.{only_records_are_read}
use Rattle.journal_record.proofs.Lengths.{rest_shorter}
use Rattle.directory_journal.specs.Replay.{empty_directory, after_record, ended, take_record, replay_from, replay}
use Rattle.directory_journal.specs.Records.{all_encoded, AllAccepted, after_records}
use Rattle.directory_journal.specs.Laws.{HoldsRecords, RecordsMakeAJournal, JournalsAreRecords}
use Rattle.directory_journal.proofs.Replaying.{at_end, at_bad, Taken, what_is_taken, one_record}

abbrev Replayed : Type 0
Replayed = Result (DirectoryMeaning × ℕ) ℕ

-- past records that are accepted
pub past_records : (m : DirectoryMeaning) (at : ℕ) (rs : List RecordValue) (rest : List ℕ) → AllAccepted m rs
    → replay_from m at 0 (all_encoded rs ++ rest) ≡ replay_from (after_records m rs) (at + length (all_encoded rs)) 0 rest
unfolding all_encoded
past_records m at [] rest a = let e : at ≡ at + 0 = omega arith in ap (λ o. replay_from m o 0 rest) e
past_records m at (r ∷ rs) rest a =
    let e : at + length (encode r) + length (all_encoded rs) ≡ at + length (encode r ++ all_encoded rs) = omega (arith, length-append (encode r) (all_encoded rs)) in
    ap (replay_from m at 0) (append_assoc (encode r) (all_encoded rs) rest)
    ∙ one_record m r (all_encoded rs ++ rest) a.0 a.1 at
    ∙ past_records (after_record m r) (at + length (encode r)) rs rest a.2
    ∙ ap (λ o. replay_from (after_records (after_record m r) rs) o 0 rest) e

pub records_make_a_journal : RecordsMakeAJournal
records_make_a_journal places rs rest a stops =
    past_records (empty_directory places) 0 rs rest a ∙ at_end _ _ rest stops
    ∙ ap (λ o. Ok (after_records (empty_directory places) rs, o)) (let e : 0 + length (all_encoded rs) ≡ length (all_encoded rs) = omega arith in e)

-- ---- and back

ok_parts : {m n : DirectoryMeaning} {a b : ℕ} → ◌≡◌ {A = Replayed} (Ok (m, a)) (Ok (n, b)) → (m ≡ n) × (a ≡ b)
ok_parts {m} {n} {a} {b} h =
    let e : ◌≡◌ {A = DirectoryMeaning × ℕ} (m, a) (n, b) = cc in
    (ap (λ (q : DirectoryMeaning × ℕ). q.0) e, ap (λ (q : DirectoryMeaning × ℕ). q.1) e)

no_record : (m : DirectoryMeaning) (at : ℕ) (xs : List ℕ) (after : DirectoryMeaning) (end : ℕ) → ended xs ≡ true → replay_from m at 0 xs ≡ Ok (after, end) → HoldsRecords m at xs after end
unfolding all_encoded
no_record m at xs after end stops h =
    let p = ok_parts (sym (at_end m at xs stops) ∙ h) in
    record { records = []; rest = xs; split = refl; stops = stops; accepting = tt; after_is = sym p.0; end_is = omega (arith, p.1) }

-- a record, and then others
with_record : (m : DirectoryMeaning) (at : ℕ) (xs : List ℕ) (next after : DirectoryMeaning) (n end : ℕ) → (t : Taken m xs next n)
    → HoldsRecords (after_record m t.taken) (at + length (encode t.taken)) t.rest after end → HoldsRecords m at xs after end
unfolding all_encoded
with_record m at xs next after n end t h =
    let o = only_records_are_read xs t.taken t.rest t.parsed in
    let r = t.taken in
    record {
      records = r ∷ h.records;
      rest = h.rest;
      split = o.1 ∙ ap (λ ys. encode r ++ ys) h.split ∙ sym (append_assoc (encode r) (all_encoded h.records) h.rest);
      stops = h.stops;
      accepting = (o.0, t.accepting, h.accepting);
      after_is = h.after_is;
      end_is = omega (arith, h.end_is, length-append (encode r) (all_encoded h.records));
    }

-- what holds of fewer bytes
abbrev HoldsBelow : ℕ → Type 0
HoldsBelow most =
    (m : DirectoryMeaning) (at : ℕ) (xs : List ℕ) (after : DirectoryMeaning) (end : ℕ) → length xs ≤ most → replay_from m at 0 xs ≡ Ok (after, end)
    → HoldsRecords m at xs after end

by_taken : (most : ℕ) → HoldsBelow most → (m : DirectoryMeaning) (at : ℕ) (xs : List ℕ) (after : DirectoryMeaning) (end : ℕ) → length xs ≤ suc most → replay_from m at 0 xs ≡ Ok (after, end) → ended xs ≡ false
    → (o : Option (DirectoryMeaning × ℕ)) → take_record m xs ≡ o → HoldsRecords m at xs after end
by_taken most below m at xs after end h e s None is = absurd (let c : ◌≡◌ {A = Replayed} (Err at) (Ok (after, end)) = sym (at_bad m at xs s is) ∙ e in grind arith)
by_taken most below m at xs after end h e s (Some p) is =
    let t = what_is_taken m xs p.0 p.1 is in
    let o = only_records_are_read xs t.taken t.rest t.parsed in
    let l = rest_shorter xs t.taken t.rest t.parsed in
    let on : replay_from (after_record m t.taken) (at + length (encode t.taken)) 0 t.rest ≡ Ok (after, end) = sym (one_record m t.taken t.rest o.0 t.accepting at) ∙ ap (replay_from m at 0) (sym o.1) ∙ e in
    with_record m at xs p.0 after p.1 end t (below (after_record m t.taken) (at + length (encode t.taken)) t.rest after end (omega (arith, l)) on)

holds : (most : ℕ) → HoldsBelow most
holds zero m at [] after end h e = no_record m at [] after end refl e
holds zero m at (x ∷ xs) after end h e = absurd (omega arith)
holds (suc most) m at xs after end h e =
    ⊎_elim (λ (s : ended xs ≡ true). no_record m at xs after end s e)
    (λ (s : ended xs ≡ false). by_taken most (holds most) m at xs after end h e s (take_record m xs) refl) (cases_Bool (ended xs))

pub journals_are_records : JournalsAreRecords
journals_are_records places bytes m end h = holds (length bytes) (empty_directory places) 0 bytes m end (omega arith) h

-- ---- the records of a journal, with other bytes behind them

module _ (places : ℕ) (bytes : List ℕ) (m : DirectoryMeaning) (used : ℕ) (is : replay places bytes ≡ Ok (m, used)) where
  found : HoldsRecords (empty_directory places) 0 bytes m used
  found = journals_are_records places bytes m used is

  front : take used bytes ≡ all_encoded found.records
  front = ap (take used) found.split ∙ take_at (all_encoded found.records) found.rest used (omega (arith, found.end_is))

  pub past_used : (ys : List ℕ) → replay places (take used bytes ++ ys) ≡ replay_from m used 0 ys
  past_used ys =
      let e : 0 + length (all_encoded found.records) ≡ used = omega (arith, found.end_is) in
      let a = sym found.after_is in
      ap (λ xs. replay places (xs ++ ys)) front ∙ past_records (empty_directory places) 0 found.records ys found.accepting
      ∙ (λ i. replay_from (a i) (e i) 0 ys)
