-- Elements that hold pairs of a key and a value: what is found under a key, and what a change of one of them leaves.
use Rattle.std.specs.Prelude.{◌≡◌, ℕ, suc, ◌<◌, true, false, cond, List, [], ◌∷◌, ◌++◌, map, length, get_or, set, Some, None, ◌≢◌, slice_index_or, slice_set}
use Rattle.std.proofs.Common.{sym, ◌∙◌, ap, subst, ⊎_elim, arith}
use Rattle.std.specs.Str.{bytes_eq}
use Rattle.std.proofs.lemmas.List.{length-map, get_or-map, map-set, map_push}
use Rattle.std.proofs.lemmas.Bool.{cases_Bool}
use Rattle.bytemap.specs.Map.{find, insert, gathered, Distinct, all_different}
use Rattle.bytemap.proofs.Find.{apart, same_is, find_empty, find_cons}
use Rattle.bytemap.proofs.Pairs.{find_at, find_push, distinct_push, find_set, distinct_set, gathered_insert, distinct_from, different_from}

module _ {X V : Type 0} (f : X → List ℕ × V) where
  -- a key that no element has is not found
  pub absent : (xs : List X) (k : List ℕ) → ((i : ℕ) → i < length xs → (d : X) → (f (slice_index_or xs i d)).0 ≢ k) → find (map f xs) k ≡ None
  absent [] k h = find_empty k
  absent (x ∷ xs) k h =
      find_cons (f x) (map f xs) k
      ∙ rw (apart (f x).0 k (h 0 (omega arith) x)) (absent xs k (λ i l d. h (suc i) (omega arith) d))

  -- what is found stands in an element
  pub found_in : (xs : List X) (k : List ℕ) (v : V) → find (map f xs) k ≡ Some v → (x : X) × ((f x).0 ≡ k) × ((f x).1 ≡ v)
  found_in [] k v e = absurd (let c : None ≡ Some v = sym (find_empty k) ∙ e in grind arith)
  found_in (x ∷ xs) k v e =
      ⊎_elim
      (λ (s : bytes_eq (f x).0 k ≡ true).
      let r : Some (f x).1 ≡ Some v = rw s at (sym (find_cons (f x) (map f xs) k) ∙ e) in
      (x, same_is (f x).0 k s, cc))
      (λ (s : bytes_eq (f x).0 k ≡ false). found_in xs k v (rw s at (sym (find_cons (f x) (map f xs) k) ∙ e)))
      (cases_Bool (bytes_eq (f x).0 k))

  module _ (xs : List X) (k : List ℕ) (different : all_different (map f xs) ≡ true) where
    distinct : Distinct (map f xs)
    distinct = distinct_from (map f xs) different

    -- the element at i has the key
    module _ (i : ℕ) (within : i < length xs) (keyed : (d : X) → (f (slice_index_or xs i d)).0 ≡ k) where
      index_within : i < length (map f xs)
      index_within = omega (arith, length-map xs f)

      key_at : (d : X) → (get_or (map f xs) i (f d)).0 ≡ k
      key_at d = ap (λ p. p.0) (get_or-map f xs i d (f d) within) ∙ keyed d

      pub present : (x : X) → x ≡ slice_index_or xs i x → find (map f xs) k ≡ Some (f x).1
      present x is =
          ap (find (map f xs)) (sym (key_at x)) ∙ find_at (map f xs) i (f x) index_within distinct
          ∙ ap (λ p. Some p.1) (get_or-map f xs i x (f x) within ∙ ap f (sym is))

      -- it is replaced by y, with the same key
      module _ (y : X) (same : (f y).0 ≡ k) where
        set_pairs : map f (slice_set xs i y) ≡ slice_set (map f xs) i ((get_or (map f xs) i (f y)).0, (f y).1)
        set_pairs = map-set f xs i y ∙ ap (λ n. set (map f xs) i (n, (f y).1)) (same ∙ sym (key_at y))

        pub gathered_set : gathered (map f (slice_set xs i y)) ≡ insert (gathered (map f xs)) k (f y).1
        gathered_set =
            gathered_insert (map f xs) (map f (slice_set xs i y)) k (f y).1
            (λ j. ap (λ ps. find ps j) set_pairs ∙ find_set (map f xs) i (f y) (f y).1 j index_within distinct
            ∙ ap (λ n. cond (bytes_eq n j) (Some (f y).1) (find (map f xs) j)) (key_at y))

        pub different_set : all_different (map f (slice_set xs i y)) ≡ true
        different_set =
            different_from (map f (slice_set xs i y)) (subst Distinct (sym set_pairs) (distinct_set (map f xs) i (f y) (f y).1 index_within distinct))

    -- no element has the key, and y, which has it, is added
    module _ (fresh : find (map f xs) k ≡ None) (y : X) (same : (f y).0 ≡ k) where
      push_pairs : map f (xs ++ y ∷ []) ≡ map f xs ++ ((k, (f y).1) ∷ [])
      push_pairs = map_push f xs y ∙ ap (λ n. map f xs ++ ((n, (f y).1) ∷ [])) same

      pub gathered_push : gathered (map f (xs ++ y ∷ [])) ≡ insert (gathered (map f xs)) k (f y).1
      gathered_push =
          gathered_insert (map f xs) (map f (xs ++ y ∷ [])) k (f y).1
          (λ j. ap (λ ps. find ps j) push_pairs ∙ find_push (map f xs) k (f y).1 j fresh)

      pub different_push : all_different (map f (xs ++ y ∷ [])) ≡ true
      different_push =
          different_from (map f (xs ++ y ∷ [])) (subst Distinct (sym push_pairs) (distinct_push (map f xs) k (f y).1 distinct fresh))
