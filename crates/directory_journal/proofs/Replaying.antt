-- One step of a replay: the end, a bad record, or a record more.
use Rattle.std.proofs.Common.{◌≡◌, ℕ, zero, suc, ◌+◌, ◌-◌, ◌<◌, ◌≤◌, true, false, List, [], ◌∷◌, ◌++◌, length, take, drop, Some, None, Ok, Err, sym, refl, ap, ◌∙◌, arith, length-append, length-drop}
use Rattle.std.specs.Option.{option_map}
use Rattle.std.proofs.lemmas.List.{drop_at, drop-drop}
use Rattle.std.proofs.lemmas.Slice.{between_to_end}
use Rattle.std.proofs.lemmas.Bool.{both_ways, ne_eqb}
use Rattle.directory.specs.Meaning.{DirectoryMeaning}
use Rattle.journal_record.specs.Records.{RecordValue, ValidRecord}
use Rattle.journal_record.specs.Layout.{encode}
use Rattle.journal_record.specs.Parse.{Read, parse}
use Rattle.journal_record.proofs.ReadBack.{records_read_back}
use Rattle.journal_record.proofs.OnlyRecords.{guard_passed}
use Rattle.journal_record.proofs.Lengths.{first_byte, rest_shorter}
use Rattle.directory_journal.specs.Replay.{accepts, after_record, ended, accepted, take_record, replay_from}

-- past the bytes of a record
skip : (m : DirectoryMeaning) (at n : ℕ) (xs : List ℕ) → n ≤ length xs → replay_from m at n xs ≡ replay_from m (at + n) 0 (drop n xs)
unfolding replay_from
skip m at zero xs h = let e : at ≡ at + 0 = omega arith in ap (λ o. replay_from m o 0 xs) e
skip m at (suc n) [] h = absurd (omega arith)
skip m at (suc n) (x ∷ xs) h =
    let e : suc at + n ≡ at + suc n = omega arith in
    skip m (suc at) n xs (omega arith) ∙ ap (λ o. replay_from m o 0 (drop n xs)) e

pub at_end : (m : DirectoryMeaning) (at : ℕ) (xs : List ℕ) → ended xs ≡ true → replay_from m at 0 xs ≡ Ok (m, at)
unfolding replay_from
at_end m at [] h = refl
at_end m at (x ∷ xs) h = rw h

pub at_bad : (m : DirectoryMeaning) (at : ℕ) (xs : List ℕ) → ended xs ≡ false → take_record m xs ≡ None → replay_from m at 0 xs ≡ Err at
unfolding replay_from
at_bad m at [] h none = absurd (both_ways true h refl)
at_bad m at (x ∷ xs) h none = rw (h, none)

step : (m : DirectoryMeaning) (at : ℕ) (xs : List ℕ) → ended xs ≡ false → (after : DirectoryMeaning) (n : ℕ) → take_record m xs ≡ Some (after, n) → 1 ≤ n → n ≤ length xs
    → replay_from m at 0 xs ≡ replay_from after (at + n) 0 (drop n xs)
unfolding replay_from
step m at [] h after n some low high = absurd (both_ways true h refl)
step m at (x ∷ xs) h after zero some low high = absurd (omega arith)
step m at (x ∷ xs) h after (suc n) some low high =
    let e : suc at + n ≡ at + suc n = omega arith in
    let z : suc n - 1 ≡ n = omega arith in
    rw (h, some, z) (skip after (suc at) n xs (omega arith) ∙ ap (λ o. replay_from after o 0 (drop n xs)) e)

-- ---- what a record that is taken is

pub record Taken (m : DirectoryMeaning) (xs : List ℕ) (after : DirectoryMeaning) (n : ℕ) : Type 0 where
  pub taken : RecordValue
  pub rest : List ℕ
  pub parsed : parse xs ≡ Some (taken, rest)
  pub accepting : accepts m taken ≡ true
  pub after_is : after ≡ after_record m taken
  pub length_is : n ≡ length xs - length rest

module _ (m : DirectoryMeaning) (xs : List ℕ) (after : DirectoryMeaning) (n : ℕ) where
  by_parse : (o : Read RecordValue) → parse xs ≡ o → accepted m (option_map (λ p. (p.0, length xs - length p.1)) o) ≡ Some (after, n) → Taken m xs after n
  by_parse None is h = absurd (grind arith)
  by_parse (Some p) is h =
      let g = guard_passed (accepts m p.0) (Some (after_record m p.0, length xs - length p.1)) (after, n) h in
      let e : ◌≡◌ {A = DirectoryMeaning × ℕ} (after_record m p.0, length xs - length p.1) (after, n) = (let f = g.1 in cc) in
      record { taken = p.0; rest = p.1; parsed = is; accepting = g.0; after_is = sym (ap (λ (q : DirectoryMeaning × ℕ). q.0) e); length_is = sym (ap (λ (q : DirectoryMeaning × ℕ). q.1) e) }

  pub what_is_taken : take_record m xs ≡ Some (after, n) → Taken m xs after n
  what_is_taken h = by_parse (parse xs) refl h

  module _ (some : take_record m xs ≡ Some (after, n)) where
    t : Taken m xs after n
    t = what_is_taken some

    shorter : length t.rest < length xs
    shorter = rest_shorter xs t.taken t.rest t.parsed

    pub taken_within : n ≤ length xs
    taken_within = omega (arith, t.length_is)

    pub taken_some : 1 ≤ n
    taken_some = omega (arith, t.length_is, shorter)

    -- a record more
    pub at_record : (at : ℕ) → ended xs ≡ false → replay_from m at 0 xs ≡ replay_from after (at + n) 0 (drop n xs)
    at_record at h = step m at xs h after n some taken_some taken_within

-- ---- a record that is there

pub not_ended : (r : RecordValue) (ys : List ℕ) → ended (encode r ++ ys) ≡ false
not_ended r ys =
    let f = first_byte r in
    rw f.3 (ne_eqb f.0 0 (λ z. let l = f.2 in omega arith))

module _ (m : DirectoryMeaning) (r : RecordValue) (ys : List ℕ) (valid : ValidRecord r) (accepting : accepts m r ≡ true) where
  taken_here : take_record m (encode r ++ ys) ≡ Some (after_record m r, length (encode r))
  taken_here =
      let p = records_read_back r ys valid in
      let n : length (encode r ++ ys) - length ys ≡ length (encode r) = omega (arith, length-append (encode r) ys) in
      rw (p, accepting, n)

  pub one_record : (at : ℕ) → replay_from m at 0 (encode r ++ ys) ≡ replay_from (after_record m r) (at + length (encode r)) 0 ys
  one_record at =
      at_record m (encode r ++ ys) (after_record m r) (length (encode r)) taken_here at (not_ended r ys)
      ∙ ap (replay_from (after_record m r) (at + length (encode r)) 0) (drop_at (encode r) ys (length (encode r)) refl)

-- ---- a turn of the loop, which reads the part from an offset on

module _ (first m : DirectoryMeaning) (bytes : List ℕ) (at : ℕ) (so_far : replay_from first 0 0 bytes ≡ replay_from m at 0 (drop at bytes)) where
  abbrev part : List ℕ
  part = take (length bytes - at) (drop at bytes)

  part_is : part ≡ drop at bytes
  part_is = between_to_end bytes at (length bytes) (omega arith)

  pub turn_ends : true ≡ ended part → replay_from first 0 0 bytes ≡ Ok (m, at)
  turn_ends h = so_far ∙ at_end m at (drop at bytes) (ap ended (sym part_is) ∙ sym h)

  pub turn_fails : false ≡ ended part → take_record m part ≡ None → replay_from first 0 0 bytes ≡ Err at
  turn_fails h none = so_far ∙ at_bad m at (drop at bytes) (ap ended (sym part_is) ∙ sym h) (ap (take_record m) (sym part_is) ∙ none)

  module _ (after : DirectoryMeaning) (n : ℕ) (some : take_record m part ≡ Some (after, n)) where
    here : take_record m (drop at bytes) ≡ Some (after, n)
    here = ap (take_record m) (sym part_is) ∙ some

    pub turn_takes : 1 ≤ n
    turn_takes = taken_some m (drop at bytes) after n here

    pub turn_within : at ≤ length bytes → at + n ≤ length bytes
    turn_within h = omega (arith, taken_within m (drop at bytes) after n here, length-drop at bytes)

    pub turn_goes_on : false ≡ ended part → replay_from first 0 0 bytes ≡ replay_from after (at + n) 0 (drop (at + n) bytes)
    turn_goes_on h =
        so_far ∙ at_record m (drop at bytes) after n here at (ap ended (sym part_is) ∙ sym h)
        ∙ ap (replay_from after (at + n) 0) (drop-drop n at bytes)
