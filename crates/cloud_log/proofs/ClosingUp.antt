-- Closing up, one record at a time.
use Rattle.std.proofs.Common.{◌≡◌, ℕ, ◌+◌, ◌-◌, ◌*◌, ◌<◌, ◌≤◌, true, List, [], ◌∷◌, ◌++◌, map, length, get_or, take, drop, set, sym, refl, ap, ◌∙◌, subst, append_assoc, append-nil, arith, length-drop, length-set}
use lib.Seq.{paste}
use Rattle.std.specs.List.{copy_within}
use Rattle.std.proofs.lemmas.List.{take_at, drop_at, take-take, drop-take, length-take-le, take_more_set, drop-set-lt, drop_more, take_all, drop_all, map_push, flat_map_more}
use Rattle.std.proofs.lemmas.Slice.Eq.{bytes_eq-Decides}
use Rattle.log_record.specs.Records.{encoded, all_encoded}
use Rattle.log_record.specs.Replay.{stored_pair}
use Rattle.log_record.specs.Written.{overwritten}
use Rattle.log_record.proofs.Overwriting.{take_overwritten, rest_overwritten, length_overwritten}
use Rattle.cloud_log.specs.declared.entry.Entry.{Entry}
use Rattle.cloud_log.specs.Index.{name_of, record_size, end_of, record_bytes, pair_in, record_in, recorded, laid}
use Rattle.cloud_log.specs.Closing.{Closed}
use Rattle.cloud_log.specs.Limits.{Head, head_of}
use Rattle.cloud_log.proofs.Standing.{moved_pair, moved_recorded, laid_none, laid_lower, laid_push, laid_same_front, laid_same_rest, laid_within}

-- a part of bytes, copied to another place in them
pasted : (b : List ℕ) (from n to : ℕ) → from + n ≤ length b → copy_within b from (from + n) to ≡ overwritten b to (take n (drop from b))
unfolding overwritten
pasted b from n to l =
    let k : from + n - from ≡ n = omega arith in
    let m : length (take n (drop from b)) ≡ n = length-take-le n (drop from b) (omega (arith, length-drop from b)) in
    ap (paste b to (drop from b)) k ∙ append_assoc (take to b) (take n (drop from b)) (drop (to + n) b) ∙ rw m

-- The first i records are moved.
pub record Closing (b₀ : List ℕ) (es₀ : List Entry) (b : List ℕ) (es : List Entry) (i end : ℕ) : Type 0 where
  pub all_bytes : length b ≡ length b₀
  pub all_entries : length es ≡ length es₀
  pub front : laid b 0 end (take i es) ≡ true
  pub packed : take end b ≡ all_encoded (map stored_pair (map (pair_in b) (take i es)))
  pub rest : laid b end (length b) (drop i es) ≡ true
  pub kept : map (pair_in b) (take i es) ++ map (pair_in b) (drop i es) ≡ map (pair_in b₀) es₀
  pub small : end ≤ 1066 * i

pub closing_none : (b : List ℕ) (es : List Entry) → laid b 0 (length b) es ≡ true → Closing b es b es 0 0
closing_none b es t =
    record { all_bytes = refl; all_entries = refl; front = laid_none b 0 0 (omega arith); packed = refl; rest = t; kept = refl; small = omega arith }

pub closing_all : (b₀ : List ℕ) (es₀ : List Entry) (b : List ℕ) (es : List Entry) (i end : ℕ) → length es ≤ i → i ≤ length es → Closing b₀ es₀ b es i end → Closed b₀ es₀ b es end
closing_all b₀ es₀ b es i end l u c =
    let t = take_all i es l in
    let d = drop_all i es l in
    record {
      in_order = subst (λ x. laid b 0 end x ≡ true) t c.front;
      packed = c.packed ∙ ap (λ x. all_encoded (map stored_pair (map (pair_in b) x))) t;
      kept = sym (append-nil (map (pair_in b) es)) ∙ ap (λ x. map (pair_in b) es ++ map (pair_in b) x) (sym d) ∙ ap (λ x. map (pair_in b) x ++ map (pair_in b) (drop i es)) (sym t) ∙ c.kept;
      small = omega (arith, c.small);
    }

-- ---- the next record

pub record Turn (b : List ℕ) (end : ℕ) (e : Entry) : Type 0 where
  pub down : end ≤ e.offset
  pub until : end_of e ≤ length b
  pub stands : recorded b e ≡ true

module _ (b₀ : List ℕ) (es₀ : List Entry) (b : List ℕ) (es : List Entry) (i end : ℕ) (c : Closing b₀ es₀ b es i end) (lt : i < length es) (e : Entry) (is : e ≡ get_or es i e) where
  next_is : drop i es ≡ e ∷ drop (i + 1) es
  next_is = drop_more es i e lt ∙ ap (λ x. x ∷ drop (i + 1) es) (sym is)

  next_head : Head b end (length b) e (drop (i + 1) es)
  next_head = head_of b end (length b) e (drop (i + 1) es) (subst (λ x. laid b end (length b) x ≡ true) next_is c.rest)

  pub turn : Turn b end e
  turn =
      let h = next_head in
      record { down = h.from; until = laid_within b (end_of e) (length b) (drop (i + 1) es) h.rest; stands = h.stands }

  -- its bytes
  part : List ℕ
  part = record_bytes b e

  part_length : length part ≡ record_size e
  unfolding part
  part_length = let t = turn in length-take-le (record_size e) (drop e.offset b) (omega (arith, t.until, length-drop e.offset b))

  part_encoded : part ≡ encoded (record_in b e)
  unfolding part
  part_encoded = (bytes_eq-Decides _ _).0 turn.stands

  module _ (b' : List ℕ) (e' : Entry) (written : b' ≡ overwritten b end (record_bytes b e)) (named : name_of e' ≡ name_of e) (sized : e'.size ≡ e.size) (placed : e'.offset ≡ end) where
    room : end + length (record_bytes b e) ≤ length b
    unfolding part
    room = let t = turn in omega (arith, part_length, t.down, t.until)

    front_bytes : take (end + record_size e) b' ≡ take end b ++ record_bytes b e
    unfolding part
    front_bytes = ap (take (end + record_size e)) written ∙ ap (λ n. take (end + n) (overwritten b end (record_bytes b e))) (sym part_length) ∙ take_overwritten b end (record_bytes b e) room

    front_length : length (take end b) ≡ end
    front_length = length-take-le end b (omega (arith, room))

    front_same : take end b' ≡ take end b
    front_same = sym (take-take end (end + record_size e) b' (omega arith)) ∙ ap (take end) front_bytes ∙ take_at (take end b) (record_bytes b e) end front_length

    rest_same : drop (end_of e) b' ≡ drop (end_of e) b
    unfolding part
    rest_same =
        let t = turn in
        let k : end + length (record_bytes b e) + (e.offset - end) ≡ end_of e = omega (arith, part_length, t.down) in
        ap (drop (end_of e)) written
        ∙ ap (λ n. drop n (overwritten b end (record_bytes b e))) (sym k)
        ∙ rest_overwritten b end (record_bytes b e) room (e.offset - end)
        ∙ ap (λ n. drop n b) k

    same_size : record_size e' ≡ record_size e
    same_size = omega (arith, ap length named, sized)

    moved_bytes : record_bytes b' e' ≡ record_bytes b e
    moved_bytes =
        (λ j. take (same_size j) (drop (placed j) b'))
        ∙ sym (drop-take end (record_size e) b')
        ∙ ap (drop end) front_bytes
        ∙ drop_at (take end b) (record_bytes b e) end front_length

    before : List (List ℕ × List ℕ)
    before = map (pair_in b) (take i es)

    moved_pairs : map (pair_in b') (take (i + 1) (set es i e')) ≡ before ++ (pair_in b e ∷ [])
    unfolding before
    moved_pairs =
        let f = (laid_same_front b b' 0 end (take i es) c.front front_same).1 in
        let p = moved_pair b b' e e' named moved_bytes in
        ap (map (pair_in b')) (take_more_set es i e' lt) ∙ map_push (pair_in b') (take i es) e' ∙ (λ j. f j ++ (p j ∷ []))

    more_front : laid b' 0 (end + record_size e) (take (i + 1) (set es i e')) ≡ true
    more_front =
        let f = (laid_same_front b b' 0 end (take i es) c.front front_same).0 in
        let r = moved_recorded b b' e e' named moved_bytes turn.stands in
        let g = laid_push b' 0 end (end + record_size e) (take i es) e' f (omega (arith, placed)) r (omega (arith, placed, same_size)) in
        subst (λ x. laid b' 0 (end + record_size e) x ≡ true) (sym (take_more_set es i e' lt)) g

    more_packed : take (end + record_size e) b' ≡ all_encoded (map stored_pair (map (pair_in b') (take (i + 1) (set es i e'))))
    unfolding before part
    more_packed =
        let k = c.packed in
        let n = part_encoded in
        front_bytes
        ∙ (λ j. k j ++ n j)
        ∙ flat_map_more encoded [] (map stored_pair before) (record_in b e)
        ∙ ap all_encoded (sym (map_push stored_pair before (pair_in b e)))
        ∙ ap (λ x. all_encoded (map stored_pair x)) (sym moved_pairs)

    same_length : length b' ≡ length b
    same_length = ap length written ∙ length_overwritten b end (record_bytes b e) room

    later : (laid b' (end_of e) (length b) (drop (i + 1) es) ≡ true) × (map (pair_in b') (drop (i + 1) es) ≡ map (pair_in b) (drop (i + 1) es))
    later = laid_same_rest b b' (end_of e) (length b) (drop (i + 1) es) next_head.rest rest_same

    more_rest : laid b' (end + record_size e) (length b') (drop (i + 1) (set es i e')) ≡ true
    more_rest =
        let t = turn in
        let l = laid_lower b' (end_of e) (end + record_size e) (length b) (drop (i + 1) es) (omega (arith, t.down)) later.0 in
        let d = drop-set-lt (i + 1) es i e' (omega arith) in
        subst (λ x. laid b' (end + record_size e) (length b') x ≡ true) (sym d) (subst (λ n. laid b' (end + record_size e) n (drop (i + 1) es) ≡ true) (sym same_length) l)

    more_kept : map (pair_in b') (take (i + 1) (set es i e')) ++ map (pair_in b') (drop (i + 1) (set es i e')) ≡ map (pair_in b₀) es₀
    unfolding before
    more_kept =
        let m = moved_pairs in
        let l = later.1 in
        let d = drop-set-lt (i + 1) es i e' (omega arith) in
        (λ j. m j ++ map (pair_in b') (d j))
        ∙ ap (λ x. (before ++ (pair_in b e ∷ [])) ++ x) l
        ∙ append_assoc before (pair_in b e ∷ []) (map (pair_in b) (drop (i + 1) es))
        ∙ ap (λ x. before ++ map (pair_in b) x) (sym next_is)
        ∙ c.kept

    closing_moved : Closing b₀ es₀ b' (set es i e') (i + 1) (end + record_size e)
    closing_moved =
        let t = turn in
        record {
          all_bytes = same_length ∙ c.all_bytes;
          all_entries = length-set es i e' ∙ c.all_entries;
          front = more_front;
          packed = more_packed;
          rest = more_rest;
          kept = more_kept;
          small = omega (arith, c.small, e.short, e.small);
        }

  -- the record is copied to the end of those before it, and its entry says so
  pub closing_more : (b' : List ℕ) (e' : Entry) (n : ℕ) → n ≡ record_size e → b' ≡ copy_within b e.offset (e.offset + n) end → name_of e' ≡ name_of e → e'.size ≡ e.size → e'.offset ≡ end
      → Closing b₀ es₀ b' (set es i e') (i + 1) (end + n)
  closing_more b' e' n k w named sized placed =
      let copied = w ∙ ap (λ m. copy_within b e.offset (e.offset + m) end) k ∙ pasted b e.offset (record_size e) end (let t = turn in omega (arith, t.until)) in
      subst (λ m. Closing b₀ es₀ b' (set es i e') (i + 1) (end + m)) (sym k) (closing_moved b' e' copied named sized placed)
