-- The smallest key above a byte string: what it is of the keys that are found, and how a search through pairs in any order finds it.
use Rattle.std.proofs.Common.{◌≡◌, ℕ, zero, suc, ◌<◌, true, false, cond, List, [], ◌∷◌, map, length, get_or, Some, None, Option, sym, refl, ap, ◌∙◌, subst, ⊎_elim, arith}
use Rattle.std.specs.Str.{bytes_eq}
use Rattle.std.specs.Option.{option_map}
use Rattle.std.proofs.lemmas.Bool.{cases_Bool, both_ways}
use Rattle.std.proofs.lemmas.List.{map-id}
use Rattle.byte_strings.specs.Order.{below, at_most}
use Rattle.byte_strings.specs.Least.{Least}
use Rattle.byte_strings.specs.OrderLaws.{below_or_at_most, at_most_antisymmetric}
use Rattle.bytemap.specs.Map.{Map, find, next_key, AllAbove, Ascending, gathered}
use Rattle.bytemap.proofs.Find.{before_first, find_empty, none_or_some, same_self, same_is, find_cons, find_gathered, ascending_gathered}

module _ {V : Type 0} where
  -- no key above
  pub next_none : (m : Map V) (a : List ℕ) → ((k : List ℕ) → below a k ≡ true → find m k ≡ None) → next_key m a ≡ None
  unfolding find next_key
  next_none [] a h = refl
  next_none (p ∷ m) a h =
      let f : below a p.0 ≡ false = (let t = h p.0 in let s = same_self p.0 in grind arith) in
      rw f (next_none m a (λ k t. let b = h k t in let s = same_is p.0 k in grind arith))

  -- a key above a that p's is not
  beside : (p : List ℕ × V) (m : Map V) (a k : List ℕ) → below a p.0 ≡ false → below a k ≡ true → find (p ∷ m) k ≡ find m k
  unfolding find
  beside p m a k s t = let e = same_is p.0 k in grind arith

  -- a key that is found is at least the first
  first_at_most : (p : List ℕ × V) (m : Map V) (n : List ℕ) (v : V) → AllAbove p.0 m → find (p ∷ m) n ≡ Some v → at_most p.0 n ≡ true
  first_at_most p m n v above e = let t = before_first p m n above in let u = below_or_at_most n p.0 in grind arith

  -- the key that is found above, and at most each that is
  pub next_some : (m : Map V) (a n : List ℕ) (v : V) → Ascending m → below a n ≡ true → find m n ≡ Some v → ((k : List ℕ) (w : V) → below a k ≡ true → find m k ≡ Some w → at_most n k ≡ true) → next_key m a ≡ Some n
  unfolding next_key
  next_some [] a n v asc t e least = absurd (grind (arith, find_empty))
  next_some (p ∷ m) a n v asc t e least =
      ⊎_elim
      (λ (s : below a p.0 ≡ true).
      let le = least p.0 p.1 s (find_cons p m p.0 ∙ rw (same_self p.0)) in
      rw s (ap Some (at_most_antisymmetric p.0 n (first_at_most p m n v asc.0 e) le)))
      (λ (s : below a p.0 ≡ false).
      rw s (next_some m a n v asc.1 t (sym (beside p m a n s t) ∙ e) (λ k w u f. least k w u (beside p m a k s u ∙ f))))
      (cases_Bool (below a p.0))

  -- ---- and back

  pub next_is_above : (m : Map V) (a n : List ℕ) → next_key m a ≡ Some n → below a n ≡ true
  unfolding next_key
  next_is_above [] a n e = absurd (grind arith)
  next_is_above (p ∷ m) a n e = let r = next_is_above m a n in grind arith

  pub next_is_found : (m : Map V) (a n : List ℕ) → next_key m a ≡ Some n → (v : V) × (find m n ≡ Some v)
  unfolding next_key
  next_is_found [] a n e = absurd (grind arith)
  next_is_found (p ∷ m) a n e =
      ⊎_elim
      (λ (s : below a p.0 ≡ true).
      let q : p.0 ≡ n = (let r : Some p.0 ≡ Some n = rw s at e in cc) in
      (p.1, find_cons p m n ∙ subst (λ x. cond (bytes_eq p.0 x) (Some p.1) (find m x) ≡ Some p.1) q (rw (same_self p.0))))
      (λ (s : below a p.0 ≡ false).
      let r : next_key m a ≡ Some n = rw s at e in
      let f = next_is_found m a n r in
      (f.0, beside p m a n s (next_is_above m a n r) ∙ f.1))
      (cases_Bool (below a p.0))

  pub next_is_least : (m : Map V) (a n k : List ℕ) (w : V) → Ascending m → next_key m a ≡ Some n → below a k ≡ true → find m k ≡ Some w → at_most n k ≡ true
  unfolding next_key
  next_is_least [] a n k w asc e t f = absurd (grind arith)
  next_is_least (p ∷ m) a n k w asc e t f = let l = first_at_most p m k w asc.0 f in let r = next_is_least m a n k w asc.1 in let b = beside p m a k in grind arith

  pub none_is_above : (m : Map V) (a k : List ℕ) → next_key m a ≡ None → below a k ≡ true → find m k ≡ None
  unfolding next_key
  none_is_above [] a k e t = find_empty k
  none_is_above (p ∷ m) a k e t = let r = none_is_above m a k in let b = beside p m a k in grind arith

-- ---- a search through elements that hold pairs

module _ {X V : Type 0} (f : X → List ℕ × V) where
  -- an element with a key that is found
  pub found_at : (xs : List X) (k : List ℕ) (v : V) → find (map f xs) k ≡ Some v → (i : ℕ) × (i < length xs) × ((d : X) → (f (get_or xs i d)).0 ≡ k)
  found_at [] k v e = absurd (let c : None ≡ Some v = sym (find_empty k) ∙ e in grind arith)
  found_at (x ∷ xs) k v e =
      ⊎_elim (λ (s : bytes_eq (f x).0 k ≡ true). (0, omega arith, λ d. same_is (f x).0 k s))
      (λ (s : bytes_eq (f x).0 k ≡ false).
      let r = found_at xs k v (rw s at (sym (find_cons (f x) (map f xs) k) ∙ e)) in
      (suc r.0, omega (arith, r.1), r.2))
      (cases_Bool (bytes_eq (f x).0 k))

  -- and the other way
  pub found_from : (xs : List X) (i : ℕ) (d : X) → i < length xs → (v : V) × (find (map f xs) (f (get_or xs i d)).0 ≡ Some v)
  found_from [] i d h = absurd (omega arith)
  found_from (x ∷ xs) zero d h = ((f x).1, find_cons (f x) (map f xs) (f x).0 ∙ rw (same_self (f x).0))
  found_from (x ∷ xs) (suc i) d h =
      let k = (f (get_or xs i d)).0 in
      let r = found_from xs i d (omega arith) in
      ⊎_elim (λ (s : bytes_eq (f x).0 k ≡ true). ((f x).1, find_cons (f x) (map f xs) k ∙ rw s))
      (λ (s : bytes_eq (f x).0 k ≡ false). (r.0, find_cons (f x) (map f xs) k ∙ rw s r.1))
      (cases_Bool (bytes_eq (f x).0 k))

  pub next_from_least : (xs : List X) (a : List ℕ) (d : X) (r : Option ℕ) → Least (λ x. below a (f x).0) (λ x y. at_most (f x).0 (f y).0) xs (length xs) r
      → next_key (gathered (map f xs)) a ≡ option_map (λ i. (f (get_or xs i d)).0) r
  next_from_least xs a d None h =
      next_none (gathered (map f xs)) a
      (λ k t. ⊎_elim (λ e. e) (λ s.
      let r = found_at xs k s.0 (sym (find_gathered (map f xs) k) ∙ s.1) in
      absurd (both_ways _ (h r.0 r.1 d) (subst (λ x. below a x ≡ true) (sym (r.2 d)) t))) (none_or_some (find (gathered (map f xs)) k)))
  next_from_least xs a d (Some i) h =
      let g = found_from xs i d h.within in
      next_some (gathered (map f xs)) a (f (get_or xs i d)).0 g.0 (ascending_gathered (map f xs)) (h.passing d) (find_gathered (map f xs) (f (get_or xs i d)).0 ∙ g.1)
      (λ k w t e. let r = found_at xs k w (sym (find_gathered (map f xs) k) ∙ e) in
      subst (λ x. at_most (f (get_or xs i d)).0 x ≡ true) (r.2 d) (h.least r.0 r.1 d (subst (λ x. below a x ≡ true) (sym (r.2 d)) t)))

-- the same among the pairs themselves
pub next_among : {V : Type 0} (ps : List (List ℕ × V)) (a : List ℕ) (d : List ℕ × V) (r : Option ℕ) → Least (λ p. below a p.0) (λ p q. at_most p.0 q.0) ps (length ps) r
    → next_key (gathered ps) a ≡ option_map (λ i. (get_or ps i d).0) r
next_among ps a d r h = ap (λ qs. next_key (gathered qs) a) (sym (map-id ps)) ∙ next_from_least (λ p. p) ps a d r h
