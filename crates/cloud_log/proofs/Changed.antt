-- What a record more, a record less and closing up make of bytes and an index that belong together.
use Rattle.std.proofs.Common.{◌≡◌, ℕ, zero, suc, ◌+◌, ◌<◌, ◌≤◌, Bool, true, false, cond, List, [], ◌∷◌, ◌++◌, map, length, get_or, take, drop, Some, None, Option, sym, refl, ap, subst, ◌∙◌, ⊎_elim, arith}
use Rattle.std.specs.Str.{bytes_eq}
use Rattle.std.proofs.lemmas.List.{take_at, drop_at, take-take, drop-take, length-take-le, length-map, length_push, get_or-map, map-append, map_push, take-map, drop-map}
use Rattle.std.proofs.lemmas.Bool.{and_from, cases_Bool}
use Rattle.std.proofs.lemmas.Slice.Eq.{bytes_eq-Decides}
use Rattle.bytemap.specs.Map.{find, insert, remove, gathered, keys, Distinct}
use Rattle.bytemap.proofs.Find.{same_self, same_is, apart, find_empty, find_cons, find_gathered}
use Rattle.bytemap.proofs.Pairs.{find_push, distinct_push, find_at, find_removed, distinct_removed, gathered_insert, gathered_remove, length_gathered}
use Rattle.log_record.specs.Records.{Record, stored, dropped, valid, encoded, all_valid, Whole}
use Rattle.log_record.specs.Replay.{done, replayed, stored_pair}
use Rattle.log_record.specs.Written.{overwritten}
use Rattle.log_record.proofs.Outcomes.{stored_valid}
use Rattle.log_record.proofs.ReadBack.{length_stored, value_encoded, whole_from, whole_push}
use Rattle.log_record.proofs.Replay.{replayed_push, replayed_stored}
use Rattle.log_record.proofs.Overwriting.{take_overwritten, length_overwritten}
use Rattle.cloud_log.specs.declared.entry.Entry.{Entry}
use Rattle.cloud_log.specs.Index.{name_of, names, record_size, end_of, record_bytes, value_in, pair_in, recorded, laid, Placed, without}
use Rattle.cloud_log.specs.Closing.{Closed}
use Rattle.cloud_log.specs.Sound.{Sound}
use Rattle.cloud_log.specs.Limits.{value_short, head_of}
use Rattle.cloud_log.proofs.Standing.{laid_push, laid_higher, laid_removed, laid_same_front}

-- ---- pairs by name

keys_of : (b : List ℕ) (es : List Entry) → keys (map (pair_in b) es) ≡ names es
keys_of b [] = refl
keys_of b (e ∷ es) = ap (λ x. name_of e ∷ x) (keys_of b es)

second_at : (b : List ℕ) (es : List Entry) (i : ℕ) → (get_or (map (pair_in b) es) i ([], [])).1 ≡ get_or (map (value_in b) es) i []
second_at b [] i = refl
second_at b (e ∷ es) zero = refl
second_at b (e ∷ es) (suc i) = second_at b es i

absent : (ps : List (List ℕ × List ℕ)) (name : List ℕ) → Placed (keys ps) name None → find ps name ≡ None
absent [] name a = find_empty name
absent (p ∷ ps) name a =
    let f : bytes_eq p.0 name ≡ false = apart p.0 name (λ e. a 0 (omega arith) e) in
    find_cons p ps name ∙ rw f (absent ps name (λ k l e. a (suc k) (omega arith) e))

module _ (ps : List (List ℕ × List ℕ)) (name : List ℕ) (d : Distinct ps) where
  module _ (i : ℕ) (a : Placed (keys ps) name (Some i)) where
    inside : i < length ps
    inside = omega (arith, a.0, length-map ps (λ p. p.0))

    key_at : (get_or ps i ([], [])).0 ≡ name
    key_at = sym (get_or-map (λ p. p.0) ps i ([], []) [] inside) ∙ a.1

    found_at : find ps name ≡ Some (get_or ps i ([], [])).1
    found_at = ap (find ps) (sym key_at) ∙ find_at ps i ([], []) inside d

  find_without : (place : Option ℕ) → Placed (keys ps) name place → (j : List ℕ) → find (without ps place) j ≡ cond (bytes_eq name j) None (find ps j)
  find_without None a j =
      ⊎_elim (λ (t : bytes_eq name j ≡ true). rw t (ap (find ps) (sym (same_is name j t)) ∙ absent ps name a)) (λ (f : bytes_eq name j ≡ false). rw f) (cases_Bool (bytes_eq name j))
  find_without (Some i) a j =
      find_removed ps i ([], []) j (inside i a) d ∙ ap (λ k. cond (bytes_eq k j) None (find ps j)) (key_at i a)

  distinct_without : (place : Option ℕ) → Placed (keys ps) name place → Distinct (without ps place)
  distinct_without None a = d
  distinct_without (Some i) a = distinct_removed ps i ([], []) (inside i a) d

  -- and then the name's pair at the end
  fresh : (place : Option ℕ) → Placed (keys ps) name place → find (without ps place) name ≡ None
  fresh place a = find_without place a name ∙ rw (same_self name)

  gathered_put : (place : Option ℕ) → Placed (keys ps) name place → (value : List ℕ) → gathered (without ps place ++ ((name, value) ∷ [])) ≡ insert (gathered ps) name value
  gathered_put place a value =
      gathered_insert ps _ name value
      (λ j. find_push (without ps place) name value j (fresh place a) ∙ ap (cond (bytes_eq name j) (Some value)) (find_without place a j) ∙ both (bytes_eq name j) (find ps j))
    where
      both : (t : Bool) (o : Option (List ℕ)) → cond t (Some value) (cond t None o) ≡ cond t (Some value) o
      both true o = refl
      both false o = refl

  distinct_put : (place : Option ℕ) → Placed (keys ps) name place → (value : List ℕ) → Distinct (without ps place ++ ((name, value) ∷ []))
  distinct_put place a value = distinct_push (without ps place) name value (distinct_without place a) (fresh place a)

  gathered_drop : (place : Option ℕ) → Placed (keys ps) name place → gathered (without ps place) ≡ remove (gathered ps) name
  gathered_drop place a = gathered_remove ps (without ps place) name (find_without place a)

-- ---- entries less one

laid_without : (b : List ℕ) (low high : ℕ) (es : List Entry) (place : Option ℕ) → laid b low high es ≡ true → laid b low high (without es place) ≡ true
laid_without b low high es None t = t
laid_without b low high es (Some i) t = laid_removed b low high es i t

map_without : {X Y : Type 0} (f : X → Y) (xs : List X) (place : Option ℕ) → map f (without xs place) ≡ without (map f xs) place
map_without f xs None = refl
map_without f xs (Some i) =
    let t = sym (take-map f i xs) in
    let d = sym (drop-map f (suc i) xs) in
    map-append f (take i xs) (drop (suc i) xs) ∙ (λ j. t j ++ d j)

-- ---- bytes with their index

-- the values are within their limits
laid_valid : (b : List ℕ) (low high : ℕ) (es : List Entry) → laid b low high es ≡ true → all_valid (map stored_pair (map (pair_in b) es)) ≡ true
laid_valid b low high [] t = refl
laid_valid b low high (e ∷ es) t =
    let h = head_of b low high e es t in
    and_from _ _ (stored_valid _ _ e.short (value_short b e)) (laid_valid b (end_of e) high es h.rest)

module _ (b : List ℕ) (used : ℕ) (es : List Entry) (s : Sound b used es) where
  length_without : (place : Option ℕ) → length (without (map (pair_in b) es) place) ≡ length (without es place)
  length_without place = ap length (sym (map_without (pair_in b) es place)) ∙ length-map (without es place) (pair_in b)

  pub not_found : (name : List ℕ) → Placed (names es) name None → find (replayed (take used b)) name ≡ None
  not_found name a = ap (λ m. find m name) s.same ∙ find_gathered (map (pair_in b) es) name ∙ absent (map (pair_in b) es) name (subst (λ x. Placed x name None) (sym (keys_of b es)) a)

  pub found_value : (name : List ℕ) (i : ℕ) → Placed (names es) name (Some i) → find (replayed (take used b)) name ≡ Some (get_or (map (value_in b) es) i [])
  found_value name i a =
      let ps = map (pair_in b) es in
      let a' = subst (λ x. Placed x name (Some i)) (sym (keys_of b es)) a in
      ap (λ m. find m name) s.same ∙ find_gathered ps name ∙ found_at ps name s.different i a' ∙ ap Some (second_at b es i)

  -- how many names are held then
  pub count_put : (name value : List ℕ) (place : Option ℕ) → Placed (names es) name place → length (insert (replayed (take used b)) name value) ≡ length (without es place) + 1
  count_put name value place a =
      let ps = map (pair_in b) es in
      let a' = subst (λ x. Placed x name place) (sym (keys_of b es)) a in
      ap (λ m. length (insert m name value)) s.same
      ∙ ap length (sym (gathered_put ps name s.different place a' value))
      ∙ length_gathered _ (distinct_put ps name s.different place a' value)
      ∙ length_push (without ps place) (name, value)
      ∙ ap (λ n. n + 1) (length_without place)

  pub count_drop : (name : List ℕ) (place : Option ℕ) → Placed (names es) name place → length (remove (replayed (take used b)) name) ≡ length (without es place)
  count_drop name place a =
      let ps = map (pair_in b) es in
      let a' = subst (λ x. Placed x name place) (sym (keys_of b es)) a in
      ap (λ m. length (remove m name)) s.same
      ∙ ap length (sym (gathered_drop ps name s.different place a'))
      ∙ length_gathered _ (distinct_without ps name s.different place a')
      ∙ length_without place

  -- closing up
  module _ (b' : List ℕ) (es' : List Entry) (end : ℕ) (c : Closed b es b' es' end) (l : end ≤ length b') where
    closed_different : Distinct (map (pair_in b') es')
    closed_different = subst Distinct (sym c.kept) s.different

    closed_valid : all_valid (map stored_pair (map (pair_in b') es')) ≡ true
    closed_valid = laid_valid b' 0 end es' c.in_order

    closed_held : replayed (take end b') ≡ gathered (map (pair_in b') es')
    closed_held = ap replayed c.packed ∙ replayed_stored (map (pair_in b') es') closed_different closed_valid

    pub sound_closed : Sound b' end es'
    sound_closed =
        record {
          within = l;
          whole = subst Whole (sym c.packed) (whole_from (map stored_pair (map (pair_in b') es')) closed_valid);
          laid_out = c.in_order;
          different = closed_different;
          same = closed_held;
        }

    pub held_closed : replayed (take end b') ≡ replayed (take used b)
    held_closed = closed_held ∙ ap gathered c.kept ∙ sym s.same

    pub names_closed : names es' ≡ names es
    names_closed = sym (keys_of b' es') ∙ ap keys c.kept ∙ keys_of b es

  -- a record more, and the entries that are kept
  module _ (r : Record) (v : valid r ≡ true) (room : used + length (encoded r) ≤ length b) (b' : List ℕ) (written : b' ≡ overwritten b used (encoded r)) where
    pub more_bytes : take (used + length (encoded r)) b' ≡ take used b ++ encoded r
    more_bytes = ap (take (used + length (encoded r))) written ∙ take_overwritten b used (encoded r) room

    used_length : length (take used b) ≡ used
    used_length = length-take-le used b s.within

    same_bytes : take used b' ≡ take used b
    same_bytes = sym (take-take used (used + length (encoded r)) b' (omega arith)) ∙ ap (take used) more_bytes ∙ take_at (take used b) (encoded r) used used_length

    pub more_within : used + length (encoded r) ≤ length b'
    more_within = omega (arith, ap length written, length_overwritten b used (encoded r) room)

    more_whole : Whole (take (used + length (encoded r)) b')
    more_whole = subst Whole (sym more_bytes) (whole_push (take used b) r s.whole v)

    pub more_held : replayed (take (used + length (encoded r)) b') ≡ done (replayed (take used b)) r
    more_held = ap replayed more_bytes ∙ replayed_push (take used b) r s.whole v

    kept_entries : (place : Option ℕ) → (laid b' 0 used (without es place) ≡ true) × (map (pair_in b') (without es place) ≡ without (map (pair_in b) es) place)
    kept_entries place =
        let l = laid_same_front b b' 0 used (without es place) (laid_without b 0 used es place s.laid_out) same_bytes in
        (l.0, l.1 ∙ map_without (pair_in b) es place)

    -- the record itself
    new_bytes : take (length (encoded r)) (drop used b') ≡ encoded r
    new_bytes = sym (drop-take used (length (encoded r)) b') ∙ ap (drop used) more_bytes ∙ drop_at (take used b) (encoded r) used used_length

  -- a value put under a name
  module _ (name value : List ℕ) (v : valid (stored name value) ≡ true) (place : Option ℕ) (a : Placed (names es) name place)
      (room : used + length (encoded (stored name value)) ≤ length b) (b' : List ℕ) (written : b' ≡ overwritten b used (encoded (stored name value)))
      (e : Entry) (named : name_of e ≡ name) (at : e.offset ≡ used) (sized : e.size ≡ length value) where
    record_length : record_size e ≡ length (encoded (stored name value))
    record_length = omega (arith, ap length named, sized, length_stored name value)

    record_is : record_bytes b' e ≡ encoded (stored name value)
    record_is = (λ j. take (record_length j) (drop (at j) b')) ∙ new_bytes (stored name value) v room b' written

    pair_is : pair_in b' e ≡ (name, value)
    pair_is =
        let p : value_in b' e ≡ value = (λ j. drop (length (named j) + 3) (record_is j)) ∙ value_encoded name value in
        λ j. (named j, p j)

    record_stands : recorded b' e ≡ true
    record_stands = (bytes_eq-Decides _ _).1 (record_is ∙ sym (ap (λ p. encoded (stored_pair p)) pair_is))

    stored_pairs : map (pair_in b') (without es place ++ (e ∷ [])) ≡ without (map (pair_in b) es) place ++ ((name, value) ∷ [])
    stored_pairs =
        let k = (kept_entries (stored name value) v room b' written place).1 in
        let p = pair_is in
        map_push (pair_in b') (without es place) e ∙ (λ j. k j ++ (p j ∷ []))

    pub stored_sound : Sound b' (used + length (encoded (stored name value))) (without es place ++ (e ∷ []))
    stored_sound =
        let ps = map (pair_in b) es in
        let a' = subst (λ x. Placed x name place) (sym (keys_of b es)) a in
        let k = kept_entries (stored name value) v room b' written place in
        record {
          within = more_within (stored name value) v room b' written;
          whole = more_whole (stored name value) v room b' written;
          laid_out = laid_push b' 0 used (used + length (encoded (stored name value))) (without es place) e k.0 (omega (arith, at)) record_stands (omega (arith, at, record_length));
          different = subst Distinct (sym stored_pairs) (distinct_put ps name s.different place a' value);
          same = more_held (stored name value) v room b' written ∙ ap (λ m. insert m name value) s.same ∙ sym (gathered_put ps name s.different place a' value) ∙ ap gathered (sym stored_pairs);
        }

  -- a name dropped
  module _ (name : List ℕ) (v : valid (dropped name) ≡ true) (place : Option ℕ) (a : Placed (names es) name place)
      (room : used + length (encoded (dropped name)) ≤ length b) (b' : List ℕ) (written : b' ≡ overwritten b used (encoded (dropped name))) where
    pub dropped_sound : Sound b' (used + length (encoded (dropped name))) (without es place)
    dropped_sound =
        let ps = map (pair_in b) es in
        let a' = subst (λ x. Placed x name place) (sym (keys_of b es)) a in
        let k = kept_entries (dropped name) v room b' written place in
        record {
          within = more_within (dropped name) v room b' written;
          whole = more_whole (dropped name) v room b' written;
          laid_out = laid_higher b' 0 used (used + length (encoded (dropped name))) (without es place) (omega arith) k.0;
          different = subst Distinct (sym k.1) (distinct_without ps name s.different place a');
          same = more_held (dropped name) v room b' written ∙ ap (λ m. remove m name) s.same ∙ sym (gathered_drop ps name s.different place a') ∙ ap gathered (sym k.1);
        }
