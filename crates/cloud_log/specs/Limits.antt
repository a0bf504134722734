-- A log cloud is within the limits of clouds.
use Rattle.std.specs.Prelude.{◌≡◌, ℕ, ◌+◌, ◌≤◌, true, false, List, [], ◌∷◌, map, length, take, drop, Some, None, vec_items, nat_le}
use Rattle.std.proofs.Common.{sym, ap, subst, ◌∙◌, ⊎_elim, arith, length-take, length-drop}
use Rattle.std.specs.Str.{bytes_eq}
use Rattle.std.proofs.lemmas.List.{length-map}
use Rattle.std.proofs.lemmas.Bool.{and_parts, leb-true, cases_Bool}
use Rattle.bytemap.specs.Map.{find, Ascending}
use Rattle.bytemap.proofs.Find.{same_is, find_empty, find_cons, find_gathered, ascending_gathered}
use Rattle.bytemap.proofs.Pairs.{length_gathered}
use Rattle.cloud.specs.Meaning.{WithinLimits}
use Rattle.log_record.specs.Replay.{replayed}
use Rattle.cloud_log.specs.declared.entry.Entry.{Entry}
use Rattle.cloud_log.specs.declared.log_cloud.LogCloud.{LogCloud}
use Rattle.cloud_log.specs.Index.{name_of, record_size, end_of, record_bytes, value_in, pair_in, recorded, laid}
use Rattle.cloud_log.specs.Meaning.{log_meaning}
use Rattle.cloud_log.specs.Sound.{Sound}

-- a value takes up no more than its entry says
pub value_short : (b : List ℕ) (e : Entry) → length (value_in b e) ≤ 1024
value_short b e = omega (arith, e.small, length-drop (length (name_of e) + 3) (record_bytes b e), length-take (record_size e) (drop e.offset b))

-- the first of the entries, and the others
pub record Head (b : List ℕ) (low high : ℕ) (e : Entry) (es : List Entry) : Type 0 where
  pub from : low ≤ e.offset
  pub stands : recorded b e ≡ true
  pub rest : laid b (end_of e) high es ≡ true

pub head_of : (b : List ℕ) (low high : ℕ) (e : Entry) (es : List Entry) → laid b low high (e ∷ es) ≡ true → Head b low high e es
unfolding laid
head_of b low high e es t =
    let p = and_parts (nat_le low e.offset) _ t in
    let q = and_parts (recorded b e) _ p.1 in
    record { from = leb-true low e.offset p.0; stands = q.0; rest = q.1 }

-- what is found is within the limits
found_short : (b : List ℕ) (low high : ℕ) (es : List Entry) → laid b low high es ≡ true → (n v : List ℕ) → find (map (pair_in b) es) n ≡ Some v → (length n ≤ 39) × (length v ≤ 1024)
found_short b low high [] t n v f = absurd (let c : None ≡ Some v = sym (find_empty n) ∙ f in grind arith)
found_short b low high (e ∷ es) t n v f =
    let h = head_of b low high e es t in
    let g = sym (find_cons (pair_in b e) (map (pair_in b) es) n) ∙ f in
    ⊎_elim
    (λ (k : bytes_eq (name_of e) n ≡ true).
    let p = ap length (same_is (name_of e) n k) in
    let q : value_in b e ≡ v = (let r : Some (value_in b e) ≡ Some v = rw k at g in cc) in
    (omega (arith, p, e.short), omega (arith, ap length q, value_short b e)))
    (λ (k : bytes_eq (name_of e) n ≡ false). found_short b (end_of e) high es h.rest n v (rw k at g))
    (cases_Bool (bytes_eq (name_of e) n))

-- how many names are held
pub count : (b : List ℕ) (used : ℕ) (es : List Entry) → Sound b used es → length (replayed (take used b)) ≡ length es
count b used es s = ap length s.same ∙ length_gathered (map (pair_in b) es) s.different ∙ length-map es (pair_in b)

pub within_limits : (s : LogCloud) → WithinLimits (log_meaning s)
within_limits s =
    let b = vec_items s.bytes in
    let es = vec_items s.index in
    record {
      ascending = subst Ascending (sym s.sound.same) (ascending_gathered (map (pair_in b) es));
      short = λ n v f. found_short b 0 s.used es s.sound.laid_out n v (sym (find_gathered (map (pair_in b) es) n) ∙ ap (λ m. find m n) (sym s.sound.same) ∙ f);
      places = omega (arith, count _ _ _ s.sound, s.index.ok.0, s.reserved, s.few);
    }
