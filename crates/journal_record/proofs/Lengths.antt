-- How long a record is, and what it begins with.
use Rattle.std.proofs.Common.{◌≡◌, ℕ, ◌+◌, ◌<◌, ◌≤◌, Bool, true, false, cond, eqb, List, [], ◌∷◌, ◌++◌, length, IfSome, Some, None, Option, refl, ap, ◌∙◌, inl, inr, arith, length-append}
use Rattle.std.proofs.lemmas.Bool.{and_parts, eqb-true, or_cases}
use Rattle.digest.specs.Value.{is_digest}
use Rattle.naming.proofs.Keys.{valid_key_high}
use Rattle.entry.specs.Bytes.{all_bytes, digest_fits}
use Rattle.entry.specs.Entries.{LiveValue, valid_live}
use Rattle.journal_record.specs.Records.{RecordValue, ValidRecord}
use Rattle.journal_record.specs.Layout.{stamp_field, container_field, size_field, two_bytes, live_fields, map_of, head_of, encode, longest_record}
use Rattle.journal_record.specs.Parse.{parse}
use Rattle.journal_record.proofs.OnlyRecords.{only_records_are_read}

pub length_container : (x : ℕ) → length (container_field x) ≤ 1
length_container x = by (eqb x 0)
  where
    by : (b : Bool) → length (cond b [] (x ∷ [])) ≤ 1
    by true = omega arith
    by false = omega arith

pub length_size : (x : ℕ) → length (size_field x) ≤ 2
length_size x = by (eqb x 0)
  where
    by : (b : Bool) → length (cond b [] (two_bytes x)) ≤ 2
    by true = omega arith
    by false = omega arith

pub width_most : (d : List ℕ) → is_digest d ≡ true → length d ≤ 32
width_most d h =
    elim (or_cases (eqb (length d) 20) (eqb (length d) 32) h) [ inl e ↦ omega (arith, eqb-true (length d) 20 e) | inr e ↦ omega (arith, eqb-true (length d) 32 e) ]

pub length_digest : (d : List ℕ) → digest_fits d ≡ true → length d ≤ 32
unfolding digest_fits
length_digest d h = width_most d (and_parts (is_digest d) (all_bytes d) h).0

pub length_live : (o : Option LiveValue) → IfSome o (λ l. valid_live l ≡ true) → length (live_fields o) ≤ 35
length_live None v = omega arith
length_live (Some l) v =
    let d = length_digest l.digest (and_parts _ (digest_fits l.digest) v).1 in
    let s = length_size l.size in
    omega (arith, length-append (size_field l.size) l.digest)

pub head_most : (r : RecordValue) → ValidRecord r → length (head_of r) ≤ 39
unfolding head_of
head_most r v =
    omega (arith, valid_key_high r.key v.key_valid, length-append r.key (stamp_field r.entry.stamp))

pub length_most : (r : RecordValue) → ValidRecord r → length (encode r) ≤ longest_record
unfolding encode
length_most r v =
    let c = length_container r.container in
    let l = length_live r.entry.live v.entry_valid.live_fits in
    let a = length-append (container_field r.container) (live_fields r.entry.live) in
    let b = length-append (head_of r) (container_field r.container ++ live_fields r.entry.live) in
    omega (arith, head_most r v)

-- A record begins with its bit map, which is not 0.
pub first_byte : (r : RecordValue) → (m : ℕ) × (rest : List ℕ) × (128 ≤ m) × (encode r ≡ m ∷ rest)
unfolding encode head_of
first_byte r = (map_of r, _, omega arith, refl)

-- ---- reading

-- what is read takes up some of the bytes, and no more than there are
module _ (xs : List ℕ) (r : RecordValue) (rest : List ℕ) (is : parse xs ≡ Some (r, rest)) where
  pub rest_shorter : length rest < length xs
  rest_shorter =
      let o = only_records_are_read xs r rest is in
      let f = first_byte r in
      omega (arith, ap length o.1, length-append (encode r) rest, ap length f.3)

-- ---- writing

pub length_appended : (before part after : List ℕ) → after ≡ before ++ part → length after ≡ length before + length part
length_appended before part after e = ap length e ∙ length-append before part
