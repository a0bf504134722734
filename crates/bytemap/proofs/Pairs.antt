-- Pairs in any order, none with the key of another: what they find, and the map that they make, after a change.
use Rattle.std.proofs.Common.{◌≡◌, ℕ, zero, suc, ◌+◌, ◌<◌, ◌≤◌, true, false, cond, not, List, [], ◌∷◌, ◌++◌, length, get_or, take, drop, set, is_some, Some, None, Option, sym, refl, ap, ◌∙◌, subst, ⊎_elim, arith}
use Rattle.std.specs.List.{position_or_len}
use Rattle.std.specs.Str.{bytes_eq}
use Rattle.std.proofs.lemmas.List.Quantifiers.{position-Some}
use Rattle.std.proofs.lemmas.Bool.{cases_Bool, and_parts, and_from}
use Rattle.std.proofs.lemmas.Bool.Decides.{nat_tests}
use Rattle.bytemap.specs.Map.{Map, find, insert, remove, Ascending, gathered, Distinct, all_different, place_of}
use Rattle.bytemap.proofs.Find.{same_self, same_is, same_sym, same_through, find_empty, find_cons, before_first, find_insert, find_remove, find_gathered, ascending_insert, ascending_remove, ascending_gathered, same_map}

module _ {V : Type 0} where
  -- a key that is found beside an absent one is another
  pub absent_apart : (p : List ℕ × V) (ps : List (List ℕ × V)) (k : List ℕ) → find (p ∷ ps) k ≡ None → (bytes_eq p.0 k ≡ false) × (find ps k ≡ None)
  unfolding find
  absent_apart p ps k fresh = (grind arith, grind arith)

  -- one pair more at the end
  pub find_push : (ps : List (List ℕ × V)) (k : List ℕ) (v : V) (j : List ℕ) → find ps k ≡ None → find (ps ++ ((k, v) ∷ [])) j ≡ cond (bytes_eq k j) (Some v) (find ps j)
  unfolding find
  find_push [] k v j fresh = refl
  find_push (p ∷ ps) k v j fresh =
      let a = absent_apart p ps k fresh in
      let f = a.0 in
      let e = find_push ps k v j a.1 in
      let t = same_through p.0 k j in
      grind (arith, nat_tests)

  pub distinct_push : (ps : List (List ℕ × V)) (k : List ℕ) (v : V) → Distinct ps → find ps k ≡ None → Distinct (ps ++ ((k, v) ∷ []))
  unfolding find
  distinct_push [] k v d fresh = (refl, tt)
  distinct_push (p ∷ ps) k v d fresh =
      let a = absent_apart p ps k fresh in
      let e = find_push ps k v p.0 a.1 in
      let s : bytes_eq k p.0 ≡ false = same_sym k p.0 ∙ a.0 in
      (e ∙ rw s d.0, distinct_push ps k v d.1 a.1)

  -- an absent key is not that at an index
  absent_at : (ps : List (List ℕ × V)) (k : List ℕ) (i : ℕ) (o : List ℕ × V) → i < length ps → find ps k ≡ None → bytes_eq k (get_or ps i o).0 ≡ false
  absent_at [] k i o h fresh = absurd (omega arith)
  absent_at (p ∷ ps) k zero o h fresh = same_sym k p.0 ∙ (absent_apart p ps k fresh).0
  absent_at (p ∷ ps) k (suc i) o h fresh = absent_at ps k i o (omega arith) (absent_apart p ps k fresh).1

  pub find_at : (ps : List (List ℕ × V)) (i : ℕ) (o : List ℕ × V) → i < length ps → Distinct ps → find ps (get_or ps i o).0 ≡ Some (get_or ps i o).1
  unfolding find
  find_at [] i o h d = absurd (omega arith)
  find_at (p ∷ ps) zero o h d = rw (same_self p.0)
  find_at (p ∷ ps) (suc i) o h d = let f = absent_at ps p.0 i o (omega arith) d.0 in rw f (find_at ps i o (omega arith) d.1)

  -- another value for the key at an index
  pub find_set : (ps : List (List ℕ × V)) (i : ℕ) (o : List ℕ × V) (v : V) (j : List ℕ) → i < length ps → Distinct ps → find (set ps i ((get_or ps i o).0, v)) j ≡ cond (bytes_eq (get_or ps i o).0 j) (Some v) (find ps j)
  unfolding find
  find_set [] i o v j h d = absurd (omega arith)
  find_set (p ∷ ps) zero o v j h d = grind (arith, nat_tests)
  find_set (p ∷ ps) (suc i) o v j h d =
      let f = absent_at ps p.0 i o (omega arith) d.0 in
      let e = find_set ps i o v j (omega arith) d.1 in
      let t = same_through p.0 (get_or ps i o).0 j in
      grind (arith, nat_tests)

  pub distinct_set : (ps : List (List ℕ × V)) (i : ℕ) (o : List ℕ × V) (v : V) → i < length ps → Distinct ps → Distinct (set ps i ((get_or ps i o).0, v))
  unfolding find
  distinct_set [] i o v h d = absurd (omega arith)
  distinct_set (p ∷ ps) zero o v h d = d
  distinct_set (p ∷ ps) (suc i) o v h d = let f = same_sym (get_or ps i o).0 p.0 ∙ absent_at ps p.0 i o (omega arith) d.0 in (find_set ps i o v p.0 (omega arith) d.1 ∙ rw f d.0, distinct_set ps i o v (omega arith) d.1)

  -- without the pair at an index
  pub find_removed : (ps : List (List ℕ × V)) (i : ℕ) (o : List ℕ × V) (j : List ℕ) → i < length ps → Distinct ps → find (take i ps ++ drop (suc i) ps) j ≡ cond (bytes_eq (get_or ps i o).0 j) None (find ps j)
  unfolding find
  find_removed [] i o j h d = absurd (omega arith)
  find_removed (p ∷ ps) zero o j h d = let s = same_is p.0 j in let n = d.0 in grind (arith, nat_tests)
  find_removed (p ∷ ps) (suc i) o j h d =
      let f = absent_at ps p.0 i o (omega arith) d.0 in
      ⊎_elim
      (λ t. let g : bytes_eq (get_or ps i o).0 j ≡ false = same_sym (get_or ps i o).0 j ∙ subst (λ k. bytes_eq k (get_or ps i o).0 ≡ false) (same_is p.0 j t) f in rw (t, g))
      (λ g. rw g (find_removed ps i o j (omega arith) d.1))
      (cases_Bool (bytes_eq p.0 j))

  pub distinct_removed : (ps : List (List ℕ × V)) (i : ℕ) (o : List ℕ × V) → i < length ps → Distinct ps → Distinct (take i ps ++ drop (suc i) ps)
  unfolding find
  distinct_removed [] i o h d = absurd (omega arith)
  distinct_removed (p ∷ ps) zero o h d = d.1
  distinct_removed (p ∷ ps) (suc i) o h d =
      let f : bytes_eq (get_or ps i o).0 p.0 ≡ false = same_sym (get_or ps i o).0 p.0 ∙ absent_at ps p.0 i o (omega arith) d.0 in
      (find_removed ps i o p.0 (omega arith) d.1 ∙ rw f d.0, distinct_removed ps i o (omega arith) d.1)

  -- ---- the map that they make

  pub gathered_insert : (ps qs : List (List ℕ × V)) (k : List ℕ) (v : V) → ((j : List ℕ) → find qs j ≡ cond (bytes_eq k j) (Some v) (find ps j)) → gathered qs ≡ insert (gathered ps) k v
  gathered_insert ps qs k v h =
      same_map (gathered qs) (insert (gathered ps) k v) (ascending_gathered qs) (ascending_insert (gathered ps) k v (ascending_gathered ps))
      (λ j. find_gathered qs j ∙ h j ∙ sym (find_insert (gathered ps) k v j ∙ ap (cond (bytes_eq k j) (Some v)) (find_gathered ps j)))

  pub gathered_remove : (ps qs : List (List ℕ × V)) (k : List ℕ) → ((j : List ℕ) → find qs j ≡ cond (bytes_eq k j) None (find ps j)) → gathered qs ≡ remove (gathered ps) k
  gathered_remove ps qs k h =
      same_map (gathered qs) (remove (gathered ps) k) (ascending_gathered qs) (ascending_remove (gathered ps) k (ascending_gathered ps))
      (λ j. find_gathered qs j ∙ h j ∙ sym (find_remove (gathered ps) k j ∙ ap (cond (bytes_eq k j) None) (find_gathered ps j)))

  -- ---- how many there are

  pub length_insert : (m : Map V) (k : List ℕ) (v : V) → find m k ≡ None → length (insert m k v) ≡ length m + 1
  unfolding insert
  length_insert [] k v fresh = refl
  length_insert (p ∷ m) k v fresh = let a = absent_apart p m k fresh in let e = length_insert m k v a.1 in let f = a.0 in grind (arith, nat_tests)

  -- a key that is found takes no place more
  pub length_insert_again : (m : Map V) (k : List ℕ) (v w : V) → Ascending m → find m k ≡ Some w → length (insert m k v) ≡ length m
  unfolding insert
  length_insert_again [] k v w asc e = absurd (grind (arith, find_empty))
  length_insert_again (p ∷ m) k v w asc e =
      let b = before_first p m k asc.0 in
      let f = find_cons p m k in
      let r = length_insert_again m k v w asc.1 in
      grind (arith, nat_tests)

  pub length_gathered : (ps : List (List ℕ × V)) → Distinct ps → length (gathered ps) ≡ length ps
  unfolding gathered
  length_gathered [] d = refl
  length_gathered (p ∷ ps) d = omega (arith, length_gathered ps d.1, length_insert (gathered ps) p.0 p.1 (find_gathered ps p.0 ∙ d.0))

  -- ---- the test for different keys decides

  not_some : (o : Option V) → not (is_some o) ≡ true → o ≡ None
  not_some None h = refl
  not_some (Some v) h = absurd (grind arith)

  pub distinct_from : (ps : List (List ℕ × V)) → all_different ps ≡ true → Distinct ps
  distinct_from [] h = tt
  distinct_from (p ∷ ps) h = let b = and_parts _ _ h in (not_some _ b.0, distinct_from ps b.1)

  pub different_from : (ps : List (List ℕ × V)) → Distinct ps → all_different ps ≡ true
  different_from [] d = refl
  different_from (p ∷ ps) d = and_from (not (is_some (find ps p.0))) (all_different ps) (rw d.0) (different_from ps d.1)

  -- ---- one pair changed, by what a search for its key found

  found_nowhere : (ps : List (List ℕ × V)) (k : List ℕ) → length ps ≤ position_or_len (λ p. bytes_eq p.0 k) ps → find ps k ≡ None
  unfolding find
  found_nowhere [] k h = refl
  found_nowhere (p ∷ ps) k h = let r = found_nowhere ps k in grind (arith, nat_tests)

  module _ (ps : List (List ℕ × V)) (k : List ℕ) where
    -- no pair has the key
    module _ (nowhere : None ≡ place_of ps k) where
      absent : find ps k ≡ None
      absent = found_nowhere ps k (grind (arith, nat_tests))

      pub unplaced : find (gathered ps) k ≡ None
      unplaced = find_gathered ps k ∙ absent

      module _ (v : V) (q : List ℕ × V) (is : q ≡ (k, v)) where
        pub gathered_push : gathered (ps ++ q ∷ []) ≡ insert (gathered ps) k v
        gathered_push = rw is (gathered_insert ps _ k v (λ j. find_push ps k v j absent))

        pub different_push : all_different ps ≡ true → all_different (ps ++ q ∷ []) ≡ true
        different_push different = rw is (different_from _ (distinct_push ps k v (distinct_from ps different) absent))

    -- the pair at the index has the key, and no other one has
    module _ (i : ℕ) (here : Some i ≡ place_of ps k) (different : all_different ps ≡ true) where
      within : i < length ps
      within = grind (arith, nat_tests)

      distinct : Distinct ps
      distinct = distinct_from ps different

      own : (d : List ℕ × V) → (get_or ps i d).0 ≡ k
      own d = same_is _ k (position-Some (λ p. bytes_eq p.0 k) ps i d (sym here)).1

      pub placed : (d : List ℕ × V) → find (gathered ps) k ≡ Some (get_or ps i d).1
      placed d = find_gathered ps k ∙ subst (λ n. find ps n ≡ Some (get_or ps i d).1) (own d) (find_at ps i d within distinct)

      module _ (v : V) (q : List ℕ × V) (is : q ≡ (k, v)) where
        named : q ≡ ((get_or ps i q).0, v)
        named = is ∙ ap (λ n. (n, v)) (sym (own q))

        pub gathered_set : gathered (set ps i q) ≡ insert (gathered ps) k v
        gathered_set =
            rw named
            (subst (λ n. gathered (set ps i ((get_or ps i q).0, v)) ≡ insert (gathered ps) n v) (own q)
            (gathered_insert ps _ _ v (λ j. find_set ps i q v j within distinct)))

        pub different_set : all_different (set ps i q) ≡ true
        different_set = rw named (different_from _ (distinct_set ps i q v within distinct))

      module _ (d : List ℕ × V) where
        pub gathered_without : gathered (take i ps ++ drop (suc i) ps) ≡ remove (gathered ps) k
        gathered_without =
            subst (λ n. gathered (take i ps ++ drop (suc i) ps) ≡ remove (gathered ps) n) (own d)
            (gathered_remove ps _ _ (λ j. find_removed ps i d j within distinct))

        pub different_without : all_different (take i ps ++ drop (suc i) ps) ≡ true
        different_without = different_from _ (distinct_removed ps i d within distinct)
