-- Records that stand one after another in bytes, as the index says.
use Rattle.std.proofs.Common.{◌≡◌, ℕ, zero, suc, ◌+◌, ◌-◌, ◌<◌, ◌≤◌, true, List, [], ◌∷◌, ◌++◌, map, length, take, drop, get_or, sym, refl, ap, ◌∙◌, arith}
use Rattle.std.specs.Str.{bytes_eq}
use Rattle.std.proofs.lemmas.List.{take-take, drop-take, drop-drop}
use Rattle.std.proofs.lemmas.Bool.{and_from, leb-true, le-leb}
use Rattle.log_record.specs.Records.{encoded}
use Rattle.log_record.specs.Replay.{stored_pair}
use Rattle.cloud_log.specs.declared.entry.Entry.{Entry}
use Rattle.cloud_log.specs.Index.{name_of, record_size, end_of, record_bytes, pair_in, recorded, laid}
use Rattle.cloud_log.specs.Limits.{Head, head_of}

-- an entry in other bytes, where the record is the same
module _ (b b' : List ℕ) (e e' : Entry) (named : name_of e' ≡ name_of e) (same : record_bytes b' e' ≡ record_bytes b e) where
  pub moved_pair : pair_in b' e' ≡ pair_in b e
  moved_pair = λ i. (named i, drop (length (named i) + 3) (same i))

  pub moved_recorded : recorded b e ≡ true → recorded b' e' ≡ true
  moved_recorded r = (let p = moved_pair in λ i. bytes_eq (same i) (encoded (stored_pair (p i)))) ∙ r

pub laid_cons : (b : List ℕ) (low high : ℕ) (e : Entry) (es : List Entry) → Head b low high e es → laid b low high (e ∷ es) ≡ true
unfolding laid
laid_cons b low high e es h = and_from _ _ (le-leb low e.offset h.from) (and_from (recorded b e) _ h.stands h.rest)

pub laid_none : (b : List ℕ) (low high : ℕ) → low ≤ high → laid b low high [] ≡ true
unfolding laid
laid_none b low high h = le-leb low high h

pub laid_within : (b : List ℕ) (low high : ℕ) (es : List Entry) → laid b low high es ≡ true → low ≤ high
unfolding laid
laid_within b low high [] t = leb-true low high t
laid_within b low high (e ∷ es) t =
    let h = head_of b low high e es t in
    omega (arith, h.from, laid_within b (end_of e) high es h.rest)

pub laid_lower : (b : List ℕ) (low low' high : ℕ) (es : List Entry) → low' ≤ low → laid b low high es ≡ true → laid b low' high es ≡ true
laid_lower b low low' high [] l t = laid_none b low' high (omega (arith, laid_within b low high [] t))
laid_lower b low low' high (e ∷ es) l t =
    let h = head_of b low high e es t in
    laid_cons b low' high e es (record { from = omega (arith, h.from); stands = h.stands; rest = h.rest })

pub laid_higher : (b : List ℕ) (low high high' : ℕ) (es : List Entry) → high ≤ high' → laid b low high es ≡ true → laid b low high' es ≡ true
laid_higher b low high high' [] l t = laid_none b low high' (omega (arith, laid_within b low high [] t))
laid_higher b low high high' (e ∷ es) l t =
    let h = head_of b low high e es t in
    laid_cons b low high' e es (record { from = h.from; stands = h.stands; rest = laid_higher b (end_of e) high high' es l h.rest })

-- one more at the end
pub laid_push : (b : List ℕ) (low high high' : ℕ) (es : List Entry) (e : Entry) → laid b low high es ≡ true → high ≤ e.offset → recorded b e ≡ true → end_of e ≤ high'
    → laid b low high' (es ++ (e ∷ [])) ≡ true
laid_push b low high high' [] e t f r l =
    laid_cons b low high' e [] (record { from = omega (arith, laid_within b low high [] t); stands = r; rest = laid_none b _ high' l })
laid_push b low high high' (q ∷ es) e t f r l =
    let h = head_of b low high q es t in
    laid_cons b low high' q (es ++ (e ∷ [])) (record { from = h.from; stands = h.stands; rest = laid_push b (end_of q) high high' es e h.rest f r l })

-- one less
pub laid_removed : (b : List ℕ) (low high : ℕ) (es : List Entry) (i : ℕ) → laid b low high es ≡ true → laid b low high (take i es ++ drop (suc i) es) ≡ true
laid_removed b low high [] zero t = t
laid_removed b low high [] (suc i) t = t
laid_removed b low high (e ∷ es) zero t =
    let h = head_of b low high e es t in
    laid_lower b _ low high es (omega (arith, h.from)) h.rest
laid_removed b low high (e ∷ es) (suc i) t =
    let h = head_of b low high e es t in
    laid_cons b low high e _ (record { from = h.from; stands = h.stands; rest = laid_removed b (end_of e) high es i h.rest })

-- the one at an index
pub record Standing (b : List ℕ) (low high : ℕ) (e : Entry) : Type 0 where
  pub from : low ≤ e.offset
  pub stands : recorded b e ≡ true
  pub until : end_of e ≤ high

pub laid_at : (b : List ℕ) (low high : ℕ) (es : List Entry) (i : ℕ) (d : Entry) → i < length es → laid b low high es ≡ true → Standing b low high (get_or es i d)
laid_at b low high [] i d l t = absurd (omega arith)
laid_at b low high (e ∷ es) zero d l t =
    let h = head_of b low high e es t in
    record { from = h.from; stands = h.stands; until = laid_within b _ high es h.rest }
laid_at b low high (e ∷ es) (suc i) d l t =
    let h = head_of b low high e es t in
    let s = laid_at b (end_of e) high es i d (omega arith) h.rest in
    record { from = omega (arith, h.from, s.from); stands = s.stands; until = s.until }

-- ---- entries in other bytes, where all their records are the same

module _ (b b' : List ℕ) (high : ℕ) where
  abbrev SameFrom : ℕ → Type 0
  SameFrom low = (e : Entry) → low ≤ e.offset → end_of e ≤ high → record_bytes b' e ≡ record_bytes b e

  laid_same : (low : ℕ) (es : List Entry) → SameFrom low → laid b low high es ≡ true → (laid b' low high es ≡ true) × (map (pair_in b') es ≡ map (pair_in b) es)
  laid_same low [] same t = (laid_none b' low high (laid_within b low high [] t), refl)
  laid_same low (e ∷ es) same t =
      let h = head_of b low high e es t in
      let s = same e h.from (laid_within b _ high es h.rest) in
      let r = laid_same (end_of e) es (λ x l u. same x (omega (arith, h.from)) u) h.rest in (
        laid_cons b' low high e es (record { from = h.from; stands = moved_recorded b b' e e refl s h.stands; rest = r.0 }),
        λ i. moved_pair b b' e e refl s i ∷ r.1 i,
      )

-- ---- the bytes up to an offset, and from one on

part_from_take : (b : List ℕ) (from n high : ℕ) → from + n ≤ high → take n (drop from b) ≡ take n (drop from (take high b))
part_from_take b from n high l =
    sym (drop-take from n b) ∙ ap (drop from) (sym (take-take (from + n) high b l)) ∙ drop-take from n (take high b)

part_from_drop : (b : List ℕ) (low from n : ℕ) → low ≤ from → take n (drop from b) ≡ take n (drop (from - low) (drop low b))
part_from_drop b low from n l =
    let e : low + (from - low) ≡ from = omega arith in
    ap (take n) (sym (drop-drop (from - low) low b ∙ ap (λ k. drop k b) e))

module _ (b b' : List ℕ) (low high : ℕ) (es : List Entry) (t : laid b low high es ≡ true) where
  pub laid_same_front : take high b' ≡ take high b → (laid b' low high es ≡ true) × (map (pair_in b') es ≡ map (pair_in b) es)
  laid_same_front s =
      laid_same b b' high low es
      (λ e l u. part_from_take b' e.offset (record_size e) high u ∙ ap (λ x. take (record_size e) (drop e.offset x)) s ∙ sym (part_from_take b e.offset (record_size e) high u)) t

  pub laid_same_rest : drop low b' ≡ drop low b → (laid b' low high es ≡ true) × (map (pair_in b') es ≡ map (pair_in b) es)
  laid_same_rest s =
      laid_same b b' high low es
      (λ e l u. part_from_drop b' low e.offset (record_size e) l ∙ ap (λ x. take (record_size e) (drop (e.offset - low) x)) s ∙ sym (part_from_drop b low e.offset (record_size e) l)) t
