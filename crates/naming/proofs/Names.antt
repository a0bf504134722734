-- Laws of names.
use Rattle.std.proofs.Common.{◌≡◌, ℕ, ◌+◌, ◌-◌, ◌*◌, ◌/◌, ◌%◌, ◌^◌, ◌<◌, ◌≤◌, Bool, true, false, cond, eqb, ltb, List, [], ◌∷◌, ◌++◌, length, get_or, take, drop, Some, None, Option, sym, refl, ap, ◌∙◌, arith, MatchOption}
use Rattle.std.proofs.lemmas.List.{append_cancel_right, length-append, take_at, drop_at, get_or-append_right}
use Rattle.std.proofs.lemmas.Bool.{both_ways, le-leb}
use Rattle.std.proofs.lemmas.Bool.Decides.{nat_tests}
use Rattle.byte_strings.specs.Order.{below}
use Rattle.byte_strings.specs.OrderLaws.{below_prefix, below_heads, below_empty}
use Rattle.naming.specs.Stamps.{StampValue, ValidStamp, valid_writer, stamp_below}
use Rattle.naming.specs.Limits.{greatest_sequence}
use Rattle.naming.proofs.Stamps.{same_stamp_value}
use Rattle.naming.specs.Names.{name_front, stamp_bytes, name_of, NoName, OnlyStamp, NamesAreDistinct, NamesKeepTheOrderOfStamps}

pub length_name_front : (c : ℕ) (k : List ℕ) → length (name_front c k) ≡ length k + 2
unfolding name_front
length_name_front c k = rw length-append (omega arith)

pub length_stamp_bytes : (s : StampValue) → length (stamp_bytes s) ≡ 5
unfolding stamp_bytes
length_stamp_bytes s = refl

pub length_name_of : (c : ℕ) (k : List ℕ) (s : StampValue) → length (name_of c k s) ≡ length k + 7
length_name_of c k s = rw (length-append, length_name_front, length_stamp_bytes) (omega arith)

-- The stamp as it is written: bs are the bytes of the sequence.
pub stamp_bytes_from : (s : StampValue) (n w : ℕ) (bs : List ℕ) → s.sequence ≤ greatest_sequence → n ≡ s.sequence → w ≡ s.writer → bs ≡ n / 2 ^ 24 % 256 ∷ n / 2 ^ 16 % 256 ∷ n / 2 ^ 8 % 256 ∷ n % 256 ∷ [] → get_or bs 0 0 ∷ get_or bs 1 0 ∷ get_or bs 2 0 ∷ get_or bs 3 0 ∷ w ∷ [] ≡ stamp_bytes s
unfolding stamp_bytes
stamp_bytes_from s n w bs fits n_is w_is bs_is =
    let top : n / 2 ^ 24 % 256 ≡ n / 2 ^ 24 = omega arith in cc

-- ---- the order of names

-- Two numbers compare as what 256 divides them into, the quotients first.
by_digits : (m n : ℕ) (t : Bool) → cond (eqb (m / 256) (n / 256)) (cond (eqb (m % 256) (n % 256)) t (ltb (m % 256) (n % 256))) (ltb (m / 256) (n / 256)) ≡ cond (eqb m n) t (ltb m n)
by_digits m n t = grind (arith, nat_tests)

quotient_24 : (n : ℕ) → n / 2 ^ 24 ≡ n / 256 / 256 / 256
quotient_24 n = omega arith

quotient_16 : (n : ℕ) → n / 2 ^ 16 ≡ n / 256 / 256
quotient_16 n = omega arith

pub stamp_bytes_keep_the_order : (s t : StampValue) → below (stamp_bytes s) (stamp_bytes t) ≡ stamp_below s t
unfolding stamp_bytes stamp_below
stamp_bytes_keep_the_order s t =
    let end = below_empty [] in simp (below_heads, quotient_24, quotient_16, by_digits) (grind (arith, nat_tests))

pub names_keep_the_order_of_stamps : NamesKeepTheOrderOfStamps
names_keep_the_order_of_stamps c k s t =
    below_prefix (name_front c k) (stamp_bytes s) (stamp_bytes t) ∙ stamp_bytes_keep_the_order s t

-- ---- no two share a name

module _ (a b xs ys : List ℕ) (ends : length xs ≡ length ys) (e : a ++ xs ≡ b ++ ys) where
  fronts : length b ≡ length a
  fronts = omega (arith, ends, simp length-append at (ap length e))

  same_front : a ≡ b
  same_front = sym (take_at a xs (length a) refl) ∙ ap (take (length a)) e ∙ take_at b ys (length a) fronts

  same_end : xs ≡ ys
  same_end = sym (drop_at a xs (length a) refl) ∙ ap (drop (length a)) e ∙ drop_at b ys (length a) fronts

pub stamp_bytes_only : (s t : StampValue) → stamp_bytes s ≡ stamp_bytes t → s ≡ t
unfolding stamp_bytes
stamp_bytes_only s t e =
    let b3 : s.sequence / 2 ^ 24 ≡ t.sequence / 2 ^ 24 = ap (λ bs. get_or bs 0 0) e in
    let b2 : s.sequence / 2 ^ 16 % 256 ≡ t.sequence / 2 ^ 16 % 256 = ap (λ bs. get_or bs 1 0) e in
    let b1 : s.sequence / 2 ^ 8 % 256 ≡ t.sequence / 2 ^ 8 % 256 = ap (λ bs. get_or bs 2 0) e in
    let b0 : s.sequence % 256 ≡ t.sequence % 256 = ap (λ bs. get_or bs 3 0) e in
    same_stamp_value s t (omega arith) (ap (λ bs. get_or bs 4 0) e)

pub name_front_only : (c d : ℕ) (k l : List ℕ) → name_front c k ≡ name_front d l → (c ≡ d) × (k ≡ l)
unfolding name_front
name_front_only c d k l e =
    (ap (λ bs. get_or bs 0 0) e, append_cancel_right k l (0x7c ∷ []) (ap (drop 1) e))

pub names_are_distinct : NamesAreDistinct
names_are_distinct c d k l s t e =
    let ends : length (stamp_bytes s) ≡ length (stamp_bytes t) = length_stamp_bytes s ∙ sym (length_stamp_bytes t) in
    let key = name_front_only c d k l (same_front (name_front c k) (name_front d l) (stamp_bytes s) (stamp_bytes t) ends e) in
    (key.0, key.1, stamp_bytes_only s t (same_end (name_front c k) (name_front d l) (stamp_bytes s) (stamp_bytes t) ends e))

-- ---- the stamp at the end of a name

name_ends : (c : ℕ) (k : List ℕ) (s : StampValue) (i : ℕ) → 1 ≤ i → i ≤ 5 → get_or (name_of c k s) (length (name_of c k s) - i) 0 ≡ get_or (stamp_bytes s) (5 - i) 0
name_ends c k s i low high =
    let n : length (name_front c k) ≡ length k + 2 = length_name_front c k in
    let from_end : length (name_of c k s) - i - (length k + 2) ≡ 5 - i = omega (arith, length_name_of c k s) in
    let past : length k + 2 ≤ length (name_of c k s) - i = omega (arith, length_name_of c k s) in
    get_or-append_right (name_front c k) (stamp_bytes s) (length k + 2) (length (name_of c k s) - i) 0 n past
    ∙ ap (λ j. get_or (stamp_bytes s) j 0) from_end

-- What the last bytes of the name write is the stamp.
module _ (name : List ℕ) (c : ℕ) (k : List ℕ) (s : StampValue) (valid : ValidStamp s) (named : name ≡ name_of c k s) where
  ends : (i : ℕ) → 1 ≤ i → i ≤ 5 → get_or name (length name - i) 0 ≡ get_or (stamp_bytes s) (5 - i) 0
  ends i low high = ap (λ bs. get_or bs (length bs - i) 0) named ∙ name_ends c k s i low high

  writer_read : get_or name (length name - 1) 0 ≡ s.writer
  unfolding stamp_bytes
  writer_read = ends 1 (omega arith) (omega arith)

  sequence_read : get_or name (length name - 5) 0 * 16777216 + get_or name (length name - 4) 0 * 65536 + get_or name (length name - 3) 0 * 256 + get_or name (length name - 2) 0 ≡ s.sequence
  unfolding stamp_bytes
  sequence_read =
      let b3 : get_or name (length name - 5) 0 ≡ s.sequence / 2 ^ 24 = ends 5 (omega arith) (omega arith) in
      let b2 : get_or name (length name - 4) 0 ≡ s.sequence / 2 ^ 16 % 256 = ends 4 (omega arith) (omega arith) in
      let b1 : get_or name (length name - 3) 0 ≡ s.sequence / 2 ^ 8 % 256 = ends 3 (omega arith) (omega arith) in
      let b0 : get_or name (length name - 2) 0 ≡ s.sequence % 256 = ends 2 (omega arith) (omega arith) in
      omega arith

  read_stamp : (n w : ℕ) → n ≡ get_or name (length name - 5) 0 * 16777216 + get_or name (length name - 4) 0 * 65536 + get_or name (length name - 3) 0 * 256 + get_or name (length name - 2) 0 → w ≡ get_or name (length name - 1) 0 → s ≡ record { sequence = n; writer = w }
  read_stamp n w n_is w_is =
      same_stamp_value s (record { sequence = n; writer = w }) (sym (n_is ∙ sequence_read)) (sym (w_is ∙ writer_read))

  has_room : 7 ≤ length name
  has_room = omega (arith, ap length named ∙ length_name_of c k s)

  writer_is_valid : valid_writer (get_or name (length name - 1) 0) ≡ true
  writer_is_valid = le-leb _ 16 (omega (arith, writer_read, valid.writer_known))

pub short_is_no_name : (name : List ℕ) → length name < 5 → NoName name
short_is_no_name name short c k (s, valid, named) = omega (arith, has_room name c k s valid named)

-- The stamp that is read from the last bytes is the only one that they can be the name of.
module _ (name : List ℕ) (n w : ℕ) (n_is : n ≡ get_or name (length name - 5) 0 * 16777216 + get_or name (length name - 4) 0 * 65536 + get_or name (length name - 3) 0 * 256 + get_or name (length name - 2) 0) (w_is : w ≡ get_or name (length name - 1) 0) where
  pub stamp_read : (r : Option StampValue) → MatchOption r (valid_writer w ≡ false) (λ t. (valid_writer w ≡ true) × (t ≡ record { sequence = n; writer = w })) → MatchOption r (NoName name) (OnlyStamp name)
  stamp_read None unknown = λ c k is_name. both_ways (valid_writer w) unknown (ap valid_writer w_is ∙ writer_is_valid name c k is_name.0 is_name.1 is_name.2)
  stamp_read (Some t) made = λ c k s valid named. read_stamp name c k s valid named n w n_is w_is ∙ sym made.1
