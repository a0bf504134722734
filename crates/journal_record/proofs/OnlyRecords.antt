-- Whatever is read is exactly the bytes that writing it gives.
use Rattle.std.proofs.Common.{◌≡◌, ℕ, ◌+◌, ◌*◌, ◌/◌, ◌%◌, ◌≤◌, Bool, true, false, cond, not, ◌&&◌, eqb, leb, List, [], ◌∷◌, ◌++◌, length, take, drop, IfSome, Some, None, Option, sym, refl, ap, ◌∙◌, subst, append_assoc, arith}
use Rattle.std.proofs.lemmas.List.{take-append-drop, length-take-le}
use Rattle.std.proofs.lemmas.Bool.{and_parts, leb-true, eqb-true, ne_eqb, eq-eqb}
use Rattle.std.proofs.lemmas.Bool.Decides.{nat_tests}
use Rattle.naming.specs.Stamps.{StampValue, valid_writer}
use Rattle.naming.specs.Text.{valid_key}
use Rattle.entry.specs.Entries.{LiveValue, valid_live, stamp_taken}
use Rattle.journal_record.specs.Records.{RecordValue, ValidRecord}
use Rattle.journal_record.specs.Layout.{four_bytes, two_bytes, stamp_field, container_field, size_field, live_fields, live_bits, map_of, head_of, encode}
use Rattle.journal_record.specs.Parse.{Read, then, guard, take_byte, take_two, take_four, take_part, take_stamp, take_container, take_size, take_digest, take_live, take_state, take_fields, bit, same, says_deleted, says_live, live_in_limits, in_limits, parse}
use Rattle.journal_record.specs.Laws.{OnlyRecordsAreRead}

-- ---- steps of reading, turned round

pub some_pair : {A : Type 0} {a b : A} {x y : List ℕ} → ◌≡◌ {A = Read A} (Some (a, x)) (Some (b, y)) → (a ≡ b) × (x ≡ y)
some_pair {A} {a} {b} {x} {y} h =
    let e : ◌≡◌ {A = A × List ℕ} (a, x) (b, y) = cc in
    (ap (λ (p : A × List ℕ). p.0) e, ap (λ (p : A × List ℕ). p.1) e)

-- what came of two steps came of the first, and then of the second
pub on_then : {A B P : Type 0} (o : Read A) (f : A → List ℕ → Option B) (b : B) → then o f ≡ Some b → ((x : A) (ys : List ℕ) → o ≡ Some (x, ys) → f x ys ≡ Some b → P) → P
on_then None f b h k = absurd (grind arith)
on_then (Some p) f b h k = k p.0 p.1 refl h

pub guard_passed : {A : Type 0} (g : Bool) (o : Option A) (y : A) → guard g o ≡ Some y → (g ≡ true) × (o ≡ Some y)
guard_passed true o y h = (refl, h)
guard_passed false o y h = absurd (grind arith)

-- ---- bytes and numbers

byte_only : (xs : List ℕ) (x : ℕ) (ys : List ℕ) → take_byte xs ≡ Some (x, ys) → xs ≡ x ∷ ys
byte_only [] x ys h = absurd (grind arith)
byte_only (a ∷ xs) x ys h = let e = some_pair h in cc

part_only : (n : ℕ) (xs p q : List ℕ) → take_part n xs ≡ Some (p, q) → (length p ≡ n) × (xs ≡ p ++ q)
part_only n xs p q h =
    let g = guard_passed (leb n (length xs)) (Some (take n xs, drop n xs)) (p, q) h in
    let l : n ≤ length xs = leb-true n (length xs) g.0 in
    let e = some_pair g.1 in
    let a : take n xs ≡ p = e.0 in
    let b : drop n xs ≡ q = e.1 in
    (rw (← a) (length-take-le n xs l), rw (← a, ← b) (sym (take-append-drop n xs)))

two_only : (xs : List ℕ) (s : ℕ) (ys : List ℕ) → take_two xs ≡ Some (s, ys) → xs ≡ two_bytes s ++ ys
two_only [] s ys h = absurd (grind arith)
two_only (x ∷ []) s ys h = absurd (grind arith)
two_only (x ∷ y ∷ xs) s ys h =
    let g = guard_passed _ _ _ h in
    let f = some_pair g.1 in
    let e : s ≡ x * 256 + y = sym f.0 in
    let k = and_parts (leb x 255) (leb y 255) g.0 in
    let p = leb-true x 255 k.0 in
    let q = leb-true y 255 k.1 in
    let hi : s / 256 % 256 ≡ x = omega arith in
    let lo : s % 256 ≡ y = omega arith in
    rw (hi, lo) cc

four_only : (xs : List ℕ) (s : ℕ) (ys : List ℕ) → take_four xs ≡ Some (s, ys) → (s ≤ 4294967295) × (xs ≡ four_bytes s ++ ys)
four_only [] s ys h = absurd (grind arith)
four_only (x ∷ []) s ys h = absurd (grind arith)
four_only (x ∷ y ∷ []) s ys h = absurd (grind arith)
four_only (x ∷ y ∷ z ∷ []) s ys h = absurd (grind arith)
four_only (x ∷ y ∷ z ∷ w ∷ xs) s ys h =
    let g = guard_passed _ _ _ h in
    let f = some_pair g.1 in
    let e : s ≡ x * 16777216 + y * 65536 + z * 256 + w = sym f.0 in
    let k = and_parts (leb x 255 && leb y 255) (leb z 255 && leb w 255) g.0 in
    let k1 = and_parts (leb x 255) (leb y 255) k.0 in
    let k2 = and_parts (leb z 255) (leb w 255) k.1 in
    let p = leb-true x 255 k1.0 in
    let q = leb-true y 255 k1.1 in
    let r = leb-true z 255 k2.0 in
    let t = leb-true w 255 k2.1 in
    let d3 : s / 16777216 % 256 ≡ x = omega arith in
    let d2 : s / 65536 % 256 ≡ y = omega arith in
    let d1 : s / 256 % 256 ≡ z = omega arith in
    let d0 : s % 256 ≡ w = omega arith in
    (omega arith, rw (d3, d2, d1, d0) cc)

-- ---- fields

stamp_only : (xs : List ℕ) (s : StampValue) (ys : List ℕ) → take_stamp xs ≡ Some (s, ys) → (s.sequence ≤ 4294967295) × (xs ≡ stamp_field s ++ ys)
stamp_only xs s ys h =
    on_then (take_four xs) _ (s, ys) h (λ n xs1 h1 h2.
    on_then (take_byte xs1) _ (s, ys) h2 (λ w xs2 h3 h4.
    let f = some_pair {A = StampValue} {a = record { sequence = n; writer = w }} {b = s} {x = xs2} {y = ys} h4 in
    let x1 = four_only xs n xs1 h1 in
    let x2 = byte_only xs1 w xs2 h3 in
    let P : StampValue → Type 0 = λ s. (s.sequence ≤ 4294967295) × (xs ≡ stamp_field s ++ ys) in
    let e : xs ≡ four_bytes n ++ (w ∷ ys) = x1.1 ∙ ap (λ (z : List ℕ). four_bytes n ++ z) (x2 ∙ ap (λ (z : List ℕ). w ∷ z) f.1) in
    subst P f.0 (x1.0, e)))

container_only : (b : Bool) (xs : List ℕ) (x : ℕ) (ys : List ℕ) → take_container b xs ≡ Some (x, ys) → (b ≡ not (eqb x 0)) × (x ≤ 255) × (xs ≡ container_field x ++ ys)
container_only false xs x ys h = let f = some_pair h in let z : x ≡ 0 = sym f.0 in (rw z, omega arith, rw z f.1)
container_only true xs x ys h =
    on_then (take_byte xs) _ (x, ys) h (λ x1 ys1 h1 h2.
    let g = guard_passed _ _ _ h2 in
    let f = some_pair g.1 in
    let e : x1 ≡ x = f.0 in
    let w = and_parts (leb 1 x1) (leb x1 255) g.0 in
    let lo = leb-true 1 x1 w.0 in
    let hi = leb-true x1 255 w.1 in
    let m : eqb x 0 ≡ false = ne_eqb x 0 (λ q. omega arith) in
    let t = byte_only xs x1 ys1 h1 in
    let k : x1 ∷ ys1 ≡ x ∷ ys = rw (e, f.1) in
    (rw m, omega arith, rw m (t ∙ k)))

size_only : (b : Bool) (xs : List ℕ) (x : ℕ) (ys : List ℕ) → take_size b xs ≡ Some (x, ys) → (b ≡ not (eqb x 0)) × (xs ≡ size_field x ++ ys)
size_only false xs x ys h = let f = some_pair h in let z : x ≡ 0 = sym f.0 in (rw z, rw z f.1)
size_only true xs x ys h =
    on_then (take_two xs) _ (x, ys) h (λ x1 ys1 h1 h2.
    let g = guard_passed _ _ _ h2 in
    let f = some_pair g.1 in
    let e : x1 ≡ x = f.0 in
    let lo = leb-true 1 x1 g.0 in
    let m : eqb x 0 ≡ false = ne_eqb x 0 (λ q. omega arith) in
    let t = two_only xs x1 ys1 h1 in
    let k : two_bytes x1 ++ ys1 ≡ two_bytes x ++ ys = rw (e, f.1) in
    (rw m, rw m (t ∙ k)))

digest_only : (long : Bool) (xs d ys : List ℕ) → take_digest long xs ≡ Some (d, ys) → (cond (eqb (length d) 20) 8 16 ≡ cond {A = ℕ} long 16 8) × (xs ≡ d ++ ys)
digest_only true xs d ys h = let s = part_only 32 xs d ys h in let n : eqb (length d) 20 ≡ false = ne_eqb (length d) 20 (λ q. let l = s.0 in omega arith) in (rw n, s.1)
digest_only false xs d ys h = let s = part_only 20 xs d ys h in let n : eqb (length d) 20 ≡ true = eq-eqb (length d) 20 s.0 in (rw n, s.1)

sizes : (b z : Bool) → b ≡ not z → cond {A = ℕ} z 0 4 ≡ cond b 4 0
sizes b true e = rw e
sizes b false e = rw e

live_only : (map : ℕ) (xs : List ℕ) (l : LiveValue) (ys : List ℕ) → take_live map xs ≡ Some (l, ys) → (live_bits (Some l) ≡ 2 + cond (bit 2 map) 4 0 + cond (bit 4 map) 16 8) × (xs ≡ live_fields (Some l) ++ ys)
live_only map xs l ys h =
    on_then (take_byte xs) _ (l, ys) h (λ c xs1 h1 h2.
    on_then (take_size (bit 2 map) xs1) _ (l, ys) h2 (λ s xs2 h3 h4.
    on_then (take_digest (bit 4 map) xs2) _ (l, ys) h4 (λ d xs3 h5 h6.
    let f = some_pair {A = LiveValue} {a = record { clouds = c; size = s; digest = d }} {b = l} {x = xs3} {y = ys} h6 in
    let x1 = byte_only xs c xs1 h1 in
    let x2 = size_only (bit 2 map) xs1 s xs2 h3 in
    let x3 = digest_only (bit 4 map) xs2 d xs3 h5 in
    let e3 : xs2 ≡ d ++ ys = x3.1 ∙ ap (λ (z : List ℕ). d ++ z) f.1 in
    let e2 : xs1 ≡ size_field s ++ (d ++ ys) = x2.1 ∙ ap (λ (z : List ℕ). size_field s ++ z) e3 in
    let e1 : xs ≡ c ∷ (size_field s ++ (d ++ ys)) = x1 ∙ ap (λ (z : List ℕ). c ∷ z) e2 in
    let z = sizes (bit 2 map) (eqb s 0) x2.0 in
    let w = x3.0 in
    let P : LiveValue → Type 0 = λ l. (live_bits (Some l) ≡ 2 + cond (bit 2 map) 4 0 + cond (bit 4 map) 16 8) × (xs ≡ live_fields (Some l) ++ ys) in
    subst P f.0 (λ i. 2 + z i + w i, e1 ∙ ap (λ (z : List ℕ). c ∷ z) (sym (append_assoc (size_field s) d ys))))))

live_map : (m : ℕ) → says_live m ≡ true → m / 2 % 16 * 2 ≡ 2 + cond (bit 2 m) 4 0 + cond (bit 4 m) 16 8
live_map m h = by (bit 2 m) refl (bit 3 m) refl (bit 4 m) refl h
  where
    by : (b2 : Bool) → bit 2 m ≡ b2 → (b3 : Bool) → bit 3 m ≡ b3 → (b4 : Bool) → bit 4 m ≡ b4 → (bit 1 m && not (same b3 b4)) ≡ true → m / 2 % 16 * 2 ≡ 2 + cond b2 4 0 + cond b4 16 8
    by true e2 true e3 true e4 h = absurd (grind (arith, nat_tests))
    by false e2 true e3 true e4 h = absurd (grind (arith, nat_tests))
    by true e2 false e3 false e4 h = absurd (grind (arith, nat_tests))
    by false e2 false e3 false e4 h = absurd (grind (arith, nat_tests))
    by true e2 true e3 false e4 h = grind (arith, nat_tests)
    by false e2 true e3 false e4 h = grind (arith, nat_tests)
    by true e2 false e3 true e4 h = grind (arith, nat_tests)
    by false e2 false e3 true e4 h = grind (arith, nat_tests)

state_only : (m : ℕ) (xs : List ℕ) (o : Option LiveValue) (ys : List ℕ) → take_state m xs ≡ Some (o, ys) → (live_bits o ≡ m / 2 % 16 * 2) × (xs ≡ live_fields o ++ ys)
state_only m xs o ys h = by (says_deleted m) refl h
  where
    by : (b : Bool) → says_deleted m ≡ b → cond {A = Read (Option LiveValue)} b (Some (None, xs)) (guard (says_live m) (then (take_live m xs) (λ live rest. Some (Some live, rest)))) ≡ Some (o, ys) → (live_bits o ≡ m / 2 % 16 * 2) × (xs ≡ live_fields o ++ ys)
    by true e h =
        let f = some_pair {A = Option LiveValue} {a = None} {b = o} {x = xs} {y = ys} h in
        let z = eqb-true (m / 2 % 16) 0 e in
        let P : Option LiveValue → Type 0 = λ o. (live_bits o ≡ m / 2 % 16 * 2) × (xs ≡ live_fields o ++ ys) in
        subst P f.0 (omega arith, f.1)
    by false e h =
        let g = guard_passed _ _ _ h in
        on_then (take_live m xs) _ (o, ys) g.1 (λ l rest h1 h2.
        let f = some_pair {A = Option LiveValue} {a = Some l} {b = o} {x = rest} {y = ys} h2 in
        let x = live_only m xs l rest h1 in
        let P : Option LiveValue → Type 0 = λ o. (live_bits o ≡ m / 2 % 16 * 2) × (xs ≡ live_fields o ++ ys) in
        subst P f.0 (x.0 ∙ sym (live_map m g.0), x.1 ∙ ap (λ (z : List ℕ). live_fields (Some l) ++ z) f.1))

low_bit : (m c : ℕ) → bit 0 m ≡ not (eqb c 0) → m % 2 ≡ cond (eqb c 0) 0 1
low_bit m c e = by (eqb c 0) e
  where
    by : (z : Bool) → bit 0 m ≡ not z → m % 2 ≡ cond z 0 1
    by true e = grind (arith, nat_tests)
    by false e = grind (arith, nat_tests)

-- what the layout alone says of a record that was read
record LaidOut (map len : ℕ) (xs : List ℕ) (r : RecordValue) (rest : List ℕ) : Type 0 where
  pub container_fits : r.container ≤ 255
  pub sequence_fits : r.entry.stamp.sequence ≤ 4294967295
  pub map_is : map ≡ map_of r
  pub len_is : len ≡ length r.key
  pub fields : xs ≡ r.key ++ (stamp_field r.entry.stamp ++ (container_field r.container ++ (live_fields r.entry.live ++ rest)))

fields_only : (map len : ℕ) (xs : List ℕ) (r : RecordValue) (rest : List ℕ) → take_fields map len xs ≡ Some (r, rest) → LaidOut map len xs r rest
fields_only map len xs r rest h =
    let g = guard_passed _ _ _ h in
    let top : map / 32 ≡ 4 = eqb-true (map / 32) 4 g.0 in
    on_then (take_part len xs) _ (r, rest) g.1 (λ k xs1 h1 h2.
    on_then (take_stamp xs1) _ (r, rest) h2 (λ s xs2 h3 h4.
    on_then (take_container (bit 0 map) xs2) _ (r, rest) h4 (λ c xs3 h5 h6.
    on_then (take_state map xs3) _ (r, rest) h6 (λ o xs4 h7 h8.
    let f = some_pair {A = RecordValue} {a = record { container = c; key = k; entry = record { stamp = s; live = o } }} {b = r} {x = xs4} {y = rest} h8 in
    let x1 = part_only len xs k xs1 h1 in
    let x2 = stamp_only xs1 s xs2 h3 in
    let x3 = container_only (bit 0 map) xs2 c xs3 h5 in
    let x4 = state_only map xs3 o xs4 h7 in
    let e4 : xs3 ≡ live_fields o ++ rest = x4.1 ∙ ap (λ (z : List ℕ). live_fields o ++ z) f.1 in
    let e3 : xs2 ≡ container_field c ++ (live_fields o ++ rest) = x3.2 ∙ ap (λ (z : List ℕ). container_field c ++ z) e4 in
    let e2 : xs1 ≡ stamp_field s ++ (container_field c ++ (live_fields o ++ rest)) = x2.1 ∙ ap (λ (z : List ℕ). stamp_field s ++ z) e3 in
    let e1 : xs ≡ k ++ (stamp_field s ++ (container_field c ++ (live_fields o ++ rest))) = x1.1 ∙ ap (λ (z : List ℕ). k ++ z) e2 in
    let lb = low_bit map c x3.0 in
    let lv = x4.0 in
    let mm : map ≡ 128 + cond (eqb c 0) 0 1 + live_bits o = omega arith in
    let made : LaidOut map len xs (record { container = c; key = k; entry = record { stamp = s; live = o } }) rest =
    record { container_fits = x3.1; sequence_fits = x2.0; map_is = mm; len_is = sym x1.0; fields = e1 } in
    subst (λ r. LaidOut map len xs r rest) f.0 made))))

live_kept : (o : Option LiveValue) → live_in_limits o ≡ true → IfSome o (λ l. valid_live l ≡ true)
live_kept None v = tt
live_kept (Some l) v = v

valid_from : (r : RecordValue) → r.container ≤ 255 → r.entry.stamp.sequence ≤ 4294967295 → in_limits r ≡ true → ValidRecord r
valid_from r fits sequence v =
    let a = and_parts (valid_key r.key) (valid_writer r.entry.stamp.writer && (live_in_limits r.entry.live && stamp_taken r.entry.stamp)) v in
    let b = and_parts (valid_writer r.entry.stamp.writer) (live_in_limits r.entry.live && stamp_taken r.entry.stamp) a.1 in
    let c = and_parts (live_in_limits r.entry.live) (stamp_taken r.entry.stamp) b.1 in
    record {
      container_fits = fits;
      key_valid = a.0;
      entry_valid = record {
        stamp_known = record { sequence_fits = sequence; writer_known = leb-true _ _ b.0 };
        stamped = c.1;
        live_fits = live_kept r.entry.live c.0;
      };
    }

pub only_records_are_read : OnlyRecordsAreRead
unfolding encode head_of parse
only_records_are_read [] r rest h = absurd (grind arith)
only_records_are_read (map ∷ []) r rest h = absurd (grind arith)
only_records_are_read (map ∷ len ∷ xs) r rest h =
    on_then (take_fields map len xs) _ (r, rest) h (λ q ys h1 h2.
    let g = guard_passed (in_limits q) (Some (q, ys)) (r, rest) h2 in
    let f = some_pair {A = RecordValue} {a = q} {b = r} {x = ys} {y = rest} g.1 in
    let o = fields_only map len xs q ys h1 in
    let m = o.map_is in
    let n = o.len_is in
    let e : xs ≡ ((q.key ++ stamp_field q.entry.stamp) ++ (container_field q.container ++ live_fields q.entry.live)) ++ rest =
    o.fields ∙ simp append_assoc (ap (λ (z : List ℕ). q.key ++ (stamp_field q.entry.stamp ++ (container_field q.container ++ (live_fields q.entry.live ++ z)))) f.1) in
    subst (λ r. ValidRecord r × ((map ∷ len ∷ xs) ≡ encode r ++ rest)) f.0
    (valid_from q o.container_fits o.sequence_fits g.0, λ i. m i ∷ n i ∷ e i))
