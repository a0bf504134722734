-- Entries of different keys are accepted in turn, and make the directory that they stand for.
use Rattle.std.proofs.Common.{◌≡◌, ℕ, ◌-◌, ◌≤◌, true, false, eqb, List, [], ◌∷◌, length, Some, None, Ok, Option, sym, refl, ap, ◌∙◌, subst, ⊎_elim, arith}
use Rattle.std.specs.Str.{bytes_eq}
use Rattle.std.proofs.lemmas.Bool.{cases_Bool, ne_eqb}
use Rattle.std.proofs.lemmas.Bool.Decides.{nat_tests}
use Rattle.bytemap.specs.Map.{find, insert, gathered, Ascending, Distinct}
use Rattle.bytemap.proofs.Find.{same_self, same_is, find_cons, find_empty, find_insert, find_gathered, ascending_insert, ascending_gathered, same_map}
use Rattle.naming.specs.Stamps.{StampValue, no_stamp, stamp_below}
use Rattle.entry.specs.Entries.{EntryValue, stamp_taken}
use Rattle.entry.proofs.Valid.{entry_is_valid}
use Rattle.directory.specs.Meaning.{DirectoryMeaning}
use Rattle.directory.specs.Calls.{commit_answer, commit_after}
use Rattle.directory_table.specs.declared.keyed_entry.KeyedEntry.{KeyedEntry}
use Rattle.directory_table.specs.Entries.{key_address, value_of, pair, pairs, meaning_of}
use Rattle.journal_record.specs.Records.{ValidRecord}
use Rattle.directory_journal.specs.Replay.{empty_directory, accepts, after_record}
use Rattle.directory_journal.specs.Records.{record_of, records_of, AllAccepted, after_records}

pub record_is_valid : (x : KeyedEntry) → ValidRecord (record_of x)
record_is_valid x = record { container_fits = x.byte; key_valid = x.at.key.valid; entry_valid = entry_is_valid x.entry }

-- a write's stamp is above that of a key without an entry
above_none : (s : StampValue) → stamp_taken s ≡ true → stamp_below no_stamp s ≡ true
unfolding stamp_below
above_none s h = grind (arith, nat_tests)

-- ---- one entry, of a key that is new

module _ (m : DirectoryMeaning) (x : KeyedEntry) (fresh : find m.entries (key_address x) ≡ None) (room : 1 ≤ m.free) where
  answer : commit_answer m (record_of x).container (record_of x).key (record_of x).entry ≡ Ok tt
  unfolding commit_answer
  answer =
      let s = above_none (value_of x).stamp (entry_is_valid x.entry).stamped in
      let f : eqb m.free 0 ≡ false = ne_eqb m.free 0 (λ z. omega arith) in
      rw (fresh, s, f)

  accepting : accepts m (record_of x) ≡ true
  accepting = rw answer

  after : after_record m (record_of x) ≡ record { entries = insert m.entries (key_address x) (value_of x); free = m.free - 1 }
  unfolding commit_after
  after = rw (answer, fresh)

-- ---- all of them

abbrev or_else : {V : Type 0} → Option V → Option V → Option V
or_else None o = o
or_else (Some v) o = Some v

record InTurn (m : DirectoryMeaning) (xs : List KeyedEntry) : Type 0 where
  all_accepted : AllAccepted m (records_of xs)
  finds : (k : List ℕ) → find (after_records m (records_of xs)).entries k ≡ or_else (find (pairs xs) k) (find m.entries k)
  ascending : Ascending (after_records m (records_of xs)).entries
  free_is : (after_records m (records_of xs)).free ≡ m.free - length xs

-- none of the entries is of a key that the directory has
abbrev Apart : DirectoryMeaning → List KeyedEntry → Type 0
Apart m xs = (k : List ℕ) (v : EntryValue) → find (pairs xs) k ≡ Some v → find m.entries k ≡ None

in_turn : (xs : List KeyedEntry) (m : DirectoryMeaning) → Distinct (pairs xs) → Apart m xs → Ascending m.entries → length xs ≤ m.free → InTurn m xs
in_turn [] m d apart asc room =
    record { all_accepted = tt; finds = λ k. rw (find_empty {V = EntryValue} k); ascending = asc; free_is = omega arith }
in_turn (x ∷ xs) m d apart asc room =
    let n : DirectoryMeaning = record { entries = insert m.entries (key_address x) (value_of x); free = m.free - 1 } in
    let fresh = apart (key_address x) (value_of x) (find_cons (pair x) (pairs xs) (key_address x) ∙ rw (same_self (key_address x))) in
    let a = after m x fresh (omega arith) in
    let r = in_turn xs n d.1 (still_apart x xs m d.0 apart) (ascending_insert m.entries (key_address x) (value_of x) asc) (omega arith) in
    record {
      all_accepted = (record_is_valid x, accepting m x fresh (omega arith), subst (λ q. AllAccepted q (records_of xs)) (sym a) r.all_accepted);
      finds = λ k. subst (λ q. find (after_records q (records_of xs)).entries k ≡ or_else (find (pairs (x ∷ xs)) k) (find m.entries k)) (sym a) (r.finds k ∙ found_with x xs m d.0 k);
      ascending = subst (λ q. Ascending (after_records q (records_of xs)).entries) (sym a) r.ascending;
      free_is = subst (λ q. (after_records q (records_of xs)).free ≡ m.free - length (x ∷ xs)) (sym a) (omega (arith, r.free_is));
    }
  where
    still_apart : (x : KeyedEntry) (xs : List KeyedEntry) (m : DirectoryMeaning) → find (pairs xs) (key_address x) ≡ None → Apart m (x ∷ xs) → Apart (record { entries = insert m.entries (key_address x) (value_of x); free = m.free - 1 }) xs
    still_apart x xs m absent apart k v e =
        find_insert m.entries (key_address x) (value_of x) k
        ∙ ⊎_elim
        (λ (s : bytes_eq (key_address x) k ≡ true). absurd (let c : None ≡ Some v = sym absent ∙ ap (find (pairs xs)) (same_is (key_address x) k s) ∙ e in grind arith))
        (λ (s : bytes_eq (key_address x) k ≡ false). rw s (apart k v (find_cons (pair x) (pairs xs) k ∙ rw s e)))
        (cases_Bool (bytes_eq (key_address x) k))

    found_with : (x : KeyedEntry) (xs : List KeyedEntry) (m : DirectoryMeaning) → find (pairs xs) (key_address x) ≡ None → (k : List ℕ)
        → or_else (find (pairs xs) k) (find (insert m.entries (key_address x) (value_of x)) k) ≡ or_else (find (pairs (x ∷ xs)) k) (find m.entries k)
    found_with x xs m absent k =
        let i = find_insert m.entries (key_address x) (value_of x) k in
        let c = find_cons (pair x) (pairs xs) k in
        ⊎_elim
        (λ (s : bytes_eq (key_address x) k ≡ true).
        let none : find (pairs xs) k ≡ None = ap (find (pairs xs)) (sym (same_is (key_address x) k s)) ∙ absent in
        rw (i, c, s, none))
        (λ (s : bytes_eq (key_address x) k ≡ false). rw (i, c, s))
        (cases_Bool (bytes_eq (key_address x) k))

module _ (xs : List KeyedEntry) (places : ℕ) (distinct : Distinct (pairs xs)) (few : length xs ≤ places) where
  all : InTurn (empty_directory places) xs
  all = in_turn xs (empty_directory places) distinct (λ k v e. find_empty k) tt few

  pub entries_accepted : AllAccepted (empty_directory places) (records_of xs)
  entries_accepted = all.all_accepted

  or_none : (o : Option EntryValue) → or_else o None ≡ o
  or_none None = refl
  or_none (Some v) = refl

  pub entries_make : after_records (empty_directory places) (records_of xs) ≡ meaning_of xs places
  entries_make =
      let e = same_map (after_records (empty_directory places) (records_of xs)).entries (gathered (pairs xs)) all.ascending (ascending_gathered (pairs xs))
      (λ k. all.finds k ∙ ap (or_else (find (pairs xs) k)) (find_empty k) ∙ or_none (find (pairs xs) k) ∙ sym (find_gathered (pairs xs) k)) in
      let f = all.free_is in
      λ i. record { entries = e i; free = f i }
