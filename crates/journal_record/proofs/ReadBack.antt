-- Every record that is written reads back as itself, whatever follows it.
use Rattle.std.proofs.Common.{◌≡◌, ℕ, ◌+◌, ◌*◌, ◌/◌, ◌%◌, ◌≤◌, Bool, true, false, cond, not, ◌&&◌, eqb, leb, List, ◌∷◌, ◌++◌, length, IfSome, Some, None, Option, refl, ◌∙◌, ⊎_elim, append_assoc, mod-eq_of_lt, arith, length-append}
use Rattle.std.proofs.lemmas.Nat.{shr-shr, div-add-mod'}
use Rattle.std.proofs.lemmas.List.{take_at, drop_at}
use Rattle.std.proofs.lemmas.Bool.{and_from, and_parts, le-leb, leb-true, eqb-true, ne_eqb, or_cases}
use Rattle.std.proofs.lemmas.Bool.Decides.{nat_tests}
use Rattle.digest.specs.Value.{is_digest}
use Rattle.entry.specs.Bytes.{all_bytes, digest_fits}
use Rattle.entry.specs.Entries.{LiveValue, valid_live}
use Rattle.journal_record.specs.Records.{RecordValue, ValidRecord}
use Rattle.journal_record.specs.Layout.{stamp_field, container_field, size_field, live_fields, live_bits, head_of, encode}
use Rattle.journal_record.specs.Parse.{Read, then, take_byte, take_part, take_container, take_size, take_digest, take_state, bit, marked, live_in_limits, in_limits, parse}
use Rattle.journal_record.specs.Laws.{RecordsReadBack}

-- ---- numbers

digits : (s p q t a b c : ℕ) → p * 256 + a ≡ s → q * 256 + b ≡ p → t * 256 + c ≡ q → t * 16777216 + c * 65536 + b * 256 + a ≡ s
digits s p q t a b c x y z = omega arith

four_value : (s : ℕ) → s ≤ 4294967295 → s / 16777216 % 256 * 16777216 + s / 65536 % 256 * 65536 + s / 256 % 256 * 256 + s % 256 ≡ s
four_value s h =
    let top : s / 16777216 % 256 ≡ s / 16777216 = mod-eq_of_lt (omega arith) in
    let y : s / 65536 * 256 + s / 256 % 256 ≡ s / 256 = rw (shr-shr s 8 8) at (div-add-mod' (s / 256) 256) in
    let z : s / 16777216 * 256 + s / 65536 % 256 ≡ s / 65536 = rw (shr-shr s 16 8) at (div-add-mod' (s / 65536) 256) in
    rw top (digits s (s / 256) (s / 65536) (s / 16777216) (s % 256) (s / 256 % 256) (s / 65536 % 256) (div-add-mod' s 256) y z)

low_byte : (n : ℕ) → leb (n % 256) 255 ≡ true
low_byte n = le-leb (n % 256) 255 (omega arith)

four_small : (s : ℕ) → ((leb (s / 16777216 % 256) 255 && leb (s / 65536 % 256) 255) && (leb (s / 256 % 256) 255 && leb (s % 256) 255)) ≡ true
four_small s = and_from _ _ (and_from _ _ (low_byte (s / 16777216)) (low_byte (s / 65536))) (and_from _ _ (low_byte (s / 256)) (low_byte s))

two_small : (s : ℕ) → (leb (s / 256 % 256) 255 && leb (s % 256) 255) ≡ true
two_small s = and_from _ _ (low_byte (s / 256)) (low_byte s)

-- ---- fields

part_back : (n : ℕ) (p q : List ℕ) → length p ≡ n → take_part n (p ++ q) ≡ Some (p, q)
part_back n p q e =
    let l : leb n (length (p ++ q)) ≡ true = le-leb n (length (p ++ q)) (rw length-append (omega arith)) in
    rw (l, take_at p q n e, drop_at p q n e)

container_back : (x : ℕ) (ys : List ℕ) → x ≤ 255 → take_container (not (eqb x 0)) (container_field x ++ ys) ≡ Some (x, ys)
container_back x ys m = by_zero (eqb x 0) refl
  where
    by_zero : (b : Bool) → eqb x 0 ≡ b → take_container (not (eqb x 0)) (container_field x ++ ys) ≡ Some (x, ys)
    by_zero true h = let z : x ≡ 0 = eqb-true x 0 h in rw z
    by_zero false h =
        let p : 1 ≤ x = grind (arith, nat_tests) in
        let w : leb 1 x && leb x 255 ≡ true = and_from _ _ (le-leb 1 x p) (le-leb x 255 m) in
        rw (h, w)

size_back : (x : ℕ) (ys : List ℕ) → x ≤ 1024 → take_size (not (eqb x 0)) (size_field x ++ ys) ≡ Some (x, ys)
size_back x ys m = by_zero (eqb x 0) refl
  where
    by_zero : (b : Bool) → eqb x 0 ≡ b → take_size (not (eqb x 0)) (size_field x ++ ys) ≡ Some (x, ys)
    by_zero true h = let z : x ≡ 0 = eqb-true x 0 h in rw z
    by_zero false h =
        let p : 1 ≤ x = grind (arith, nat_tests) in
        let w : leb 1 x ≡ true = le-leb 1 x p in
        let v : x / 256 % 256 * 256 + x % 256 ≡ x = omega arith in
        rw (h, two_small x, v, w)

-- a digest's width is told by one bit
digest_width : (d : List ℕ) → digest_fits d ≡ true → length d ≡ cond (not (eqb (length d) 20)) 32 20
unfolding digest_fits
digest_width d h =
    ⊎_elim (λ (e : eqb (length d) 20 ≡ true). rw e (eqb-true (length d) 20 e))
    (λ (e : eqb (length d) 32 ≡ true). let l = eqb-true (length d) 32 e in let n : eqb (length d) 20 ≡ false = ne_eqb (length d) 20 (λ q. omega arith) in rw n l)
    (or_cases (eqb (length d) 20) (eqb (length d) 32) (and_parts (is_digest d) (all_bytes d) h).0)

-- ---- the state, by what the map says

abbrev live_by : Bool → Bool → List ℕ → Read LiveValue
live_by sized long xs =
    then (take_byte xs) (λ clouds ys.
    then (take_size sized ys) (λ size zs.
    then (take_digest long zs) (λ digest rest. Some (record { clouds = clouds; size = size; digest = digest }, rest))))

map_says : (b z s : Bool) (xs : List ℕ) → take_state (128 + cond b 0 1 + (2 + cond z 0 4 + cond s 8 16)) xs ≡ then (live_by (not z) (not s) xs) (λ live rest. Some (Some live, rest))
map_says true true true xs = refl
map_says true true false xs = refl
map_says true false true xs = refl
map_says true false false xs = refl
map_says false true true xs = refl
map_says false true false xs = refl
map_says false false true xs = refl
map_says false false false xs = refl

valid_live_size : (l : LiveValue) → valid_live l ≡ true → l.size ≤ 1024
valid_live_size l v = leb-true _ _ (and_parts _ _ (and_parts (leb 1 l.clouds && leb l.clouds 127 && leb l.size 1024) (digest_fits l.digest) v).0).1

valid_live_digest : (l : LiveValue) → valid_live l ≡ true → digest_fits l.digest ≡ true
valid_live_digest l v = (and_parts (leb 1 l.clouds && leb l.clouds 127 && leb l.size 1024) (digest_fits l.digest) v).1

live_back : (l : LiveValue) (ys : List ℕ) → valid_live l ≡ true → live_by (not (eqb l.size 0)) (not (eqb (length l.digest) 20)) (l.clouds ∷ (size_field l.size ++ (l.digest ++ ys))) ≡ Some (l, ys)
live_back l ys v =
    let z = size_back l.size (l.digest ++ ys) (valid_live_size l v) in
    let e = part_back (cond (not (eqb (length l.digest) 20)) 32 20) l.digest ys (digest_width l.digest (valid_live_digest l v)) in
    rw (z, e)

state_back : (b : Bool) (o : Option LiveValue) (ys : List ℕ) → live_in_limits o ≡ true → take_state (128 + cond b 0 1 + live_bits o) (live_fields o ++ ys) ≡ Some (o, ys)
state_back true None ys v = refl
state_back false None ys v = refl
state_back b (Some l) ys v =
    let e = live_back l ys v in
    map_says b (eqb l.size 0) (eqb (length l.digest) 20) _ ∙ rw (append_assoc, e)

map_marked : (b : Bool) (o : Option LiveValue) → marked (128 + cond b 0 1 + live_bits o) ≡ true
map_marked true None = refl
map_marked false None = refl
map_marked b (Some l) = live b (eqb l.size 0) (eqb (length l.digest) 20)
  where
    live : (b z s : Bool) → marked (128 + cond b 0 1 + (2 + cond z 0 4 + cond s 8 16)) ≡ true
    live true true true = refl
    live true true false = refl
    live true false true = refl
    live true false false = refl
    live false true true = refl
    live false true false = refl
    live false false true = refl
    live false false false = refl

map_container : (b : Bool) (o : Option LiveValue) → bit 0 (128 + cond b 0 1 + live_bits o) ≡ not b
map_container true None = refl
map_container false None = refl
map_container b (Some l) = live b (eqb l.size 0) (eqb (length l.digest) 20)
  where
    live : (b z s : Bool) → bit 0 (128 + cond b 0 1 + (2 + cond z 0 4 + cond s 8 16)) ≡ not b
    live true true true = refl
    live true true false = refl
    live true false true = refl
    live true false false = refl
    live false true true = refl
    live false true false = refl
    live false false true = refl
    live false false false = refl

-- ---- the record

live_limits : (o : Option LiveValue) → IfSome o (λ l. valid_live l ≡ true) → live_in_limits o ≡ true
live_limits None v = refl
live_limits (Some l) v = v

pub valid_in_limits : (r : RecordValue) → ValidRecord r → in_limits r ≡ true
valid_in_limits r v =
    let e = v.entry_valid in
    and_from _ _ v.key_valid (and_from _ _ (le-leb _ _ e.stamp_known.writer_known) (and_from _ _ (live_limits r.entry.live e.live_fits) e.stamped))

pub records_read_back : RecordsReadBack
unfolding encode head_of parse
records_read_back r rest v =
    let top = map_marked (eqb r.container 0) r.entry.live in
    let low = map_container (eqb r.container 0) r.entry.live in
    let after = container_field r.container ++ (live_fields r.entry.live ++ rest) in
    let k = part_back (length r.key) r.key (stamp_field r.entry.stamp ++ after) refl in
    let s = four_value r.entry.stamp.sequence v.entry_valid.stamp_known.sequence_fits in
    let c = container_back r.container (live_fields r.entry.live ++ rest) v.container_fits in
    let t = state_back (eqb r.container 0) r.entry.live rest (live_limits r.entry.live v.entry_valid.live_fits) in
    let l = valid_in_limits r v in
    simp append_assoc (rw (top, k, four_small r.entry.stamp.sequence, s, low, c, t, l))
