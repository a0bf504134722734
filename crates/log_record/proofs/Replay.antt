-- What a log holds after one record more, and what a log of stored records alone holds.
use Rattle.std.proofs.Common.{◌≡◌, ℕ, true, false, List, [], ◌∷◌, ◌++◌, map, None, sym, refl, ap, ◌∙◌, subst, append_assoc, append-nil}
use Rattle.std.specs.Str.{bytes_eq}
use Rattle.bytemap.specs.Map.{Map, find, insert, gathered, Distinct}
use Rattle.bytemap.proofs.Find.{same_sym}
use Rattle.bytemap.proofs.Pairs.{absent_apart, find_push, gathered_insert}
use Rattle.log_record.specs.Records.{Record, valid, encoded, all_encoded, all_valid, first_records, records_in, Whole}
use Rattle.log_record.specs.Replay.{done, all_done, replayed, stored_pair}
use Rattle.log_record.proofs.ReadBack.{records_push, records_read_back}

all_done_push : (m : Map (List ℕ)) (rs : List Record) (r : Record) → all_done m (rs ++ (r ∷ [])) ≡ done (all_done m rs) r
unfolding all_done
all_done_push m [] r = refl
all_done_push m (q ∷ rs) r = all_done_push (done m q) rs r

-- one record more
pub replayed_push : (bytes : List ℕ) (r : Record) → Whole bytes → valid r ≡ true → replayed (bytes ++ encoded r) ≡ done (replayed bytes) r
unfolding replayed
replayed_push bytes r w v = ap (all_done []) (records_push bytes r w v) ∙ all_done_push [] (records_in bytes) r

pub replayed_none : replayed [] ≡ []
unfolding replayed all_done records_in first_records
replayed_none = refl

-- ---- stored records alone, no name twice

-- where a name is not found, no pair has it
absent_within : (ps qs : List (List ℕ × List ℕ)) (q : List ℕ × List ℕ) (k : List ℕ) → find (ps ++ (q ∷ qs)) k ≡ None → bytes_eq q.0 k ≡ false
absent_within [] qs q k fresh = (absent_apart q qs k fresh).0
absent_within (p ∷ ps) qs q k fresh = absent_within ps qs q k (absent_apart p (ps ++ (q ∷ qs)) k fresh).1

-- the pairs before another have other names
front_absent : (ps qs : List (List ℕ × List ℕ)) (q : List ℕ × List ℕ) → Distinct (ps ++ (q ∷ qs)) → find ps q.0 ≡ None
unfolding find
front_absent [] qs q d = refl
front_absent (p ∷ ps) qs q d =
    let f : bytes_eq p.0 q.0 ≡ false = same_sym p.0 q.0 ∙ absent_within ps qs q p.0 d.0 in
    rw f (front_absent ps qs q d.1)

all_done_from : (ps qs : List (List ℕ × List ℕ)) → Distinct (ps ++ qs) → all_done (gathered ps) (map stored_pair qs) ≡ gathered (ps ++ qs)
unfolding all_done
all_done_from ps [] d = ap gathered (sym (append-nil ps))
all_done_from ps (q ∷ qs) d =
    let a : (ps ++ (q ∷ [])) ++ qs ≡ ps ++ (q ∷ qs) = append_assoc ps (q ∷ []) qs in
    let g : gathered (ps ++ (q ∷ [])) ≡ insert (gathered ps) q.0 q.1 =
    gathered_insert ps (ps ++ (q ∷ [])) q.0 q.1 (λ j. find_push ps q.0 q.1 j (front_absent ps qs q d)) in
    ap (λ m. all_done m (map stored_pair qs)) (sym g) ∙ all_done_from (ps ++ (q ∷ [])) qs (subst Distinct (sym a) d) ∙ ap gathered a

pub replayed_stored : (ps : List (List ℕ × List ℕ)) → Distinct ps → all_valid (map stored_pair ps) ≡ true → replayed (all_encoded (map stored_pair ps)) ≡ gathered ps
unfolding replayed gathered
replayed_stored ps d v = ap (all_done []) (records_read_back (map stored_pair ps) v) ∙ all_done_from [] ps d
