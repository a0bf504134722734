-- Records are read back as they were written.
use Rattle.std.proofs.Common.{◌≡◌, ℕ, zero, suc, ◌+◌, ◌*◌, ◌/◌, ◌%◌, ◌≤◌, true, false, eqb, leb, List, [], ◌∷◌, ◌++◌, length, drop, sym, refl, ap, ◌∙◌, subst, append_assoc, arith, length-append}
use Rattle.std.proofs.lemmas.List.{take_at, drop_at, drop-drop, flat_map_more}
use Rattle.std.proofs.lemmas.Bool.{and_parts, and_from, leb-true, ne_eqb}
use Rattle.log_record.specs.Records.{Record, stored, dropped, valid, encoded, all_encoded, all_valid, first_records, records_in, Whole, RecordsReadBack}

-- how long a record is
pub length_stored : (name value : List ℕ) → length (encoded (stored name value)) ≡ length name + length value + 3
unfolding encoded
length_stored name value = omega (arith, length-append name (length value / 256 ∷ length value % 256 ∷ value))

pub length_dropped : (name : List ℕ) → length (encoded (dropped name)) ≡ length name + 3
unfolding encoded
length_dropped name = omega (arith, length-append name (255 ∷ 255 ∷ []))

-- the value stands at the end
pub value_encoded : (name value : List ℕ) → drop (length name + 3) (encoded (stored name value)) ≡ value
unfolding encoded
value_encoded name value =
    let w = length value / 256 ∷ length value % 256 ∷ value in
    let k : length name + 3 ≡ suc (length name + 2) = omega arith in
    ap (λ n. drop n (length name ∷ (name ++ w))) k ∙ sym (drop-drop 2 (length name) (name ++ w)) ∙ ap (drop 2) (drop_at name w (length name) refl)

record_takes_up : (r : Record) → 1 ≤ length (encoded r)
record_takes_up (stored name value) = omega (arith, length_stored name value)
record_takes_up (dropped name) = omega (arith, length_dropped name)

-- ---- one record

size_is : (n : ℕ) → 256 * (n / 256) + n % 256 ≡ n
size_is n = omega arith

record_first : (r : Record) (ys : List ℕ) (most : ℕ) → valid r ≡ true → first_records (suc most) (encoded r ++ ys) ≡ r ∷ first_records most ys
unfolding encoded first_records
record_first (stored name value) ys most v =
    let w = length value / 256 ∷ length value % 256 ∷ value in
    let p = and_parts (leb (length name) 39) (leb (length value) 1024) v in
    let s = size_is (length value) in
    let b = leb-true (length value) 1024 p.1 in
    let e : eqb (length value) 65535 ≡ false = ne_eqb (length value) 65535 (λ h. omega arith) in
    let a : (name ++ w) ++ ys ≡ name ++ (w ++ ys) = append_assoc name w ys in
    rw (a, take_at name (w ++ ys) (length name) refl, drop_at name (w ++ ys) (length name) refl, s, e, take_at value ys (length value) refl, drop_at value ys (length value) refl)
record_first (dropped name) ys most v =
    let w : List ℕ = 255 ∷ 255 ∷ [] in
    let a : (name ++ w) ++ ys ≡ name ++ (w ++ ys) = append_assoc name w ys in
    rw (a, take_at name (w ++ ys) (length name) refl, drop_at name (w ++ ys) (length name) refl)

-- ---- all of them

-- enough is any number from the bytes' length on
records_first : (rs : List Record) (most : ℕ) → all_valid rs ≡ true → length (all_encoded rs) ≤ most → first_records most (all_encoded rs) ≡ rs
unfolding first_records
records_first [] zero v h = refl
records_first [] (suc most) v h = refl
records_first (r ∷ rs) zero v h = absurd (omega (arith, length-append (encoded r) (all_encoded rs), record_takes_up r))
records_first (r ∷ rs) (suc most) v h =
    let p = and_parts (valid r) (all_valid rs) v in
    let l : length (all_encoded rs) ≤ most = omega (arith, length-append (encoded r) (all_encoded rs), record_takes_up r) in
    record_first r (all_encoded rs) most p.0 ∙ ap (λ x. r ∷ x) (records_first rs most p.1 l)

pub records_read_back : RecordsReadBack
unfolding records_in
records_read_back rs v = records_first rs (length (all_encoded rs)) v (omega arith)

-- one more at the end

pub all_valid_push : (rs : List Record) (r : Record) → all_valid rs ≡ true → valid r ≡ true → all_valid (rs ++ (r ∷ [])) ≡ true
all_valid_push [] r v w = and_from (valid r) true w refl
all_valid_push (q ∷ rs) r v w =
    let p = and_parts (valid q) (all_valid rs) v in
    and_from (valid q) (all_valid (rs ++ (r ∷ []))) p.0 (all_valid_push rs r p.1 w)

-- bytes that are encoded records are whole
pub whole_from : (rs : List Record) → all_valid rs ≡ true → Whole (all_encoded rs)
whole_from rs v =
    let e = records_read_back rs v in
    record { all_of_them = ap all_encoded e; each_valid = ap all_valid e ∙ v }

module _ (bytes : List ℕ) (r : Record) (w : Whole bytes) (v : valid r ≡ true) where
  more_encoded : all_encoded (records_in bytes ++ (r ∷ [])) ≡ bytes ++ encoded r
  more_encoded = sym (flat_map_more encoded [] (records_in bytes) r) ∙ ap (λ x. x ++ encoded r) w.all_of_them

  more_valid : all_valid (records_in bytes ++ (r ∷ [])) ≡ true
  more_valid = all_valid_push (records_in bytes) r w.each_valid v

  pub records_push : records_in (bytes ++ encoded r) ≡ records_in bytes ++ (r ∷ [])
  records_push = ap records_in (sym more_encoded) ∙ records_read_back _ more_valid

  pub whole_push : Whole (bytes ++ encoded r)
  whole_push = subst Whole more_encoded (whole_from _ more_valid)
