-- What a map finds after a change, and that what it finds makes the map.
use Rattle.std.proofs.Common.{◌≡◌, ℕ, Bool, true, false, cond, ◌⊎◌, List, [], ◌∷◌, Some, None, Option, sym, refl, ap, ◌∙◌, subst, inl, inr, ⊎_elim, arith}
use Rattle.std.specs.Str.{bytes_eq}
use Rattle.std.proofs.lemmas.Slice.Eq.{bytes_eq-Decides}
use Rattle.std.proofs.lemmas.Bool.{cases_Bool, both_ways}
use Rattle.std.proofs.lemmas.Bool.Decides.{nat_tests}
use Rattle.byte_strings.specs.Order.{below}
use Rattle.byte_strings.specs.OrderLaws.{below_irreflexive, below_transitive, below_trichotomy}
use Rattle.bytemap.specs.Map.{Map, find, insert, remove, AllAbove, Ascending, gathered}

-- ---- tests

pub same_self : (k : List ℕ) → bytes_eq k k ≡ true
same_self k = (bytes_eq-Decides k k).1 refl

pub same_is : (j k : List ℕ) → bytes_eq j k ≡ true → j ≡ k
same_is j k h = (bytes_eq-Decides j k).0 h

pub apart : (j k : List ℕ) → (j ≡ k → ⊥) → bytes_eq j k ≡ false
apart j k h = let s = same_is j k in grind arith

pub below_apart : (j k : List ℕ) → below j k ≡ true → bytes_eq j k ≡ false
below_apart j k h = apart j k (λ e. both_ways _ (below_irreflexive k) (subst (λ x. below x k ≡ true) e h))

pub same_sym : (j k : List ℕ) → bytes_eq j k ≡ bytes_eq k j
same_sym j k = let s = same_is j k in let t = same_is k j in let u = apart j k in let v = apart k j in grind (arith, same_self)

-- equal keys are found alike
pub same_at : (i k j : List ℕ) → bytes_eq i k ≡ true → bytes_eq i j ≡ bytes_eq k j
same_at i k j h = ap (λ x. bytes_eq x j) (same_is i k h)

pub same_through : (i k j : List ℕ) → bytes_eq i j ≡ true → bytes_eq k j ≡ true → bytes_eq i k ≡ true
same_through i k j p q = (bytes_eq-Decides i k).1 (same_is i j p ∙ sym (same_is k j q))

pub below_asymmetric : (j k : List ℕ) → below j k ≡ true → below k j ≡ false
below_asymmetric j k h = let i = below_irreflexive j in let t = below_transitive j k j h in grind arith

pub above_when : (k j : List ℕ) → below k j ≡ false → bytes_eq j k ≡ false → below j k ≡ true
above_when k j f g = let e = below_trichotomy j k in let s = same_self k in grind arith

-- ---- what is found

module _ {V : Type 0} where
  find_cond : (b : Bool) (m n : Map V) (j : List ℕ) → find (cond b m n) j ≡ cond b (find m j) (find n j)
  find_cond true m n j = refl
  find_cond false m n j = refl

  pub find_cons : (p : List ℕ × V) (m : Map V) (k : List ℕ) → find (p ∷ m) k ≡ cond (bytes_eq p.0 k) (Some p.1) (find m k)
  unfolding find
  find_cons p m k = refl

  pub find_insert : (m : Map V) (k : List ℕ) (v : V) (j : List ℕ) → find (insert m k v) j ≡ cond (bytes_eq k j) (Some v) (find m j)
  unfolding find insert
  find_insert [] k v j = refl
  find_insert (p ∷ m) k v j =
      let e = find_insert m k v j in
      let s = same_at p.0 k j in
      let t = same_through p.0 k j in
      find_cond (below k p.0) _ _ j
      ∙ ap (cond (below k p.0) _) (find_cond (bytes_eq p.0 k) _ _ j)
      ∙ grind (arith, nat_tests)

  pub find_remove : (m : Map V) (k j : List ℕ) → find (remove m k) j ≡ cond (bytes_eq k j) None (find m j)
  unfolding find remove
  find_remove [] k j = grind (arith, nat_tests)
  find_remove (p ∷ m) k j =
      let e = find_remove m k j in
      let s = same_at p.0 k j in
      let t = same_through p.0 k j in
      find_cond (bytes_eq p.0 k) _ _ j ∙ grind (arith, nat_tests)

  pub find_gathered : (ps : List (List ℕ × V)) (k : List ℕ) → find (gathered ps) k ≡ find ps k
  unfolding find gathered
  find_gathered [] k = refl
  find_gathered (p ∷ ps) k = find_insert (gathered ps) p.0 p.1 k ∙ ap (cond (bytes_eq p.0 k) (Some p.1)) (find_gathered ps k)

  -- ---- ascending

  pub all_above_weaker : (a b : List ℕ) (m : Map V) → below a b ≡ true → AllAbove b m → AllAbove a m
  all_above_weaker a b [] h q = tt
  all_above_weaker a b (p ∷ m) h q = (below_transitive a b p.0 h q.0, all_above_weaker a b m h q.1)

  -- a key that is not above all is not found
  pub not_above : (a : List ℕ) (m : Map V) (k : List ℕ) → AllAbove a m → below a k ≡ false → find m k ≡ None
  unfolding find
  not_above a [] k q h = refl
  not_above a (p ∷ m) k q h = let e = same_is p.0 k in let r = not_above a m k q.1 h in let t = q.0 in grind arith

  pub all_above_insert : (a : List ℕ) (m : Map V) (k : List ℕ) (v : V) → below a k ≡ true → AllAbove a m → AllAbove a (insert m k v)
  unfolding insert
  all_above_insert a [] k v h q = (h, tt)
  all_above_insert a (p ∷ m) k v h q =
      ⊎_elim (λ t. rw t (h, q))
      (λ f. rw f (⊎_elim (λ t. rw t (h, q.1)) (λ g. rw g (q.0, all_above_insert a m k v h q.1)) (cases_Bool (bytes_eq p.0 k))))
      (cases_Bool (below k p.0))

  pub ascending_insert : (m : Map V) (k : List ℕ) (v : V) → Ascending m → Ascending (insert m k v)
  unfolding insert
  ascending_insert [] k v q = (tt, tt)
  ascending_insert (p ∷ m) k v q =
      ⊎_elim (λ t. rw t ((t, all_above_weaker k p.0 m t q.0), q))
      (λ f. rw f
      (⊎_elim (λ t. rw t (subst (λ x. AllAbove x m) (same_is p.0 k t) q.0, q.1))
      (λ g. rw g (all_above_insert p.0 m k v (above_when k p.0 f g) q.0, ascending_insert m k v q.1))
      (cases_Bool (bytes_eq p.0 k))))
      (cases_Bool (below k p.0))

  pub all_above_remove : (a : List ℕ) (m : Map V) (k : List ℕ) → AllAbove a m → AllAbove a (remove m k)
  unfolding remove
  all_above_remove a [] k q = tt
  all_above_remove a (p ∷ m) k q =
      ⊎_elim (λ t. rw t (all_above_remove a m k q.1)) (λ f. rw f (q.0, all_above_remove a m k q.1)) (cases_Bool (bytes_eq p.0 k))

  pub ascending_remove : (m : Map V) (k : List ℕ) → Ascending m → Ascending (remove m k)
  unfolding remove
  ascending_remove [] k q = tt
  ascending_remove (p ∷ m) k q =
      ⊎_elim (λ t. rw t (ascending_remove m k q.1)) (λ f. rw f (all_above_remove p.0 m k q.0, ascending_remove m k q.1))
      (cases_Bool (bytes_eq p.0 k))

  pub ascending_gathered : (ps : List (List ℕ × V)) → Ascending (gathered ps)
  unfolding gathered
  ascending_gathered [] = tt
  ascending_gathered (p ∷ ps) = ascending_insert (gathered ps) p.0 p.1 (ascending_gathered ps)

  -- ---- what is found makes the map

  found_first : (p : List ℕ × V) (m : Map V) → find (p ∷ m) p.0 ≡ Some p.1
  unfolding find
  found_first p m = rw (same_self p.0)

  pub find_empty : (k : List ℕ) → find {V = V} [] k ≡ None
  unfolding find
  find_empty k = refl

  pub none_or_some : (o : Option V) → (o ≡ None) ⊎ ((v : V) × (o ≡ Some v))
  none_or_some None = inl refl
  none_or_some (Some v) = inr (v, refl)

  -- a key below the first is not found
  pub before_first : (q : List ℕ × V) (n : Map V) (k : List ℕ) → AllAbove q.0 n → below k q.0 ≡ true → find (q ∷ n) k ≡ None
  unfolding find
  before_first q n k above h = let e = same_sym q.0 k in let f = below_apart k q.0 h in let r = not_above q.0 n k above (below_asymmetric k q.0 h) in grind arith

  -- two ascending maps that find the same have the same first key
  same_first : (p q : List ℕ × V) (m n : Map V) → AllAbove p.0 m → AllAbove q.0 n → ((k : List ℕ) → find (p ∷ m) k ≡ find (q ∷ n) k) → p.0 ≡ q.0
  same_first p q m n above_p above_q same =
      let a = before_first q n p.0 above_q in
      let b = before_first p m q.0 above_p in
      let f = found_first p m in
      let g = found_first q n in
      let s = same p.0 in
      let t = same q.0 in
      let o = below_trichotomy p.0 q.0 in
      grind arith

  -- and the same rest
  same_rest : (p q : List ℕ × V) (m n : Map V) → p.0 ≡ q.0 → AllAbove p.0 m → AllAbove q.0 n → ((k : List ℕ) → find (p ∷ m) k ≡ find (q ∷ n) k) → (k : List ℕ) → find m k ≡ find n k
  same_rest p q m n e above_p above_q same k =
      let a = not_above p.0 m k above_p in
      let b = not_above q.0 n k above_q in
      let i = below_irreflexive p.0 in
      let t = same_is p.0 k in
      let f = find_cons p m k in
      let g = find_cons q n k in
      let s = same k in
      grind (arith, nat_tests)

  pub same_map : (m n : Map V) → Ascending m → Ascending n → ((k : List ℕ) → find m k ≡ find n k) → m ≡ n
  same_map [] [] a b same = refl
  same_map [] (q ∷ n) a b same =
      let s = same q.0 in
      absurd (grind (arith, find_empty, found_first))
  same_map (p ∷ m) [] a b same =
      let s = same p.0 in
      absurd (grind (arith, find_empty, found_first))
  same_map (p ∷ m) (q ∷ n) a b same =
      let e = same_first p q m n a.0 b.0 same in
      let r = same_map m n a.1 b.1 (same_rest p q m n e a.0 b.0 same) in
      let v : ◌≡◌ {A = Option V} (Some p.1) (Some q.1) = sym (found_first p m) ∙ ap (find (p ∷ m)) e ∙ same q.0 ∙ found_first q n in
      let w : p.1 ≡ q.1 = cc in
      λ i. (e i, w i) ∷ r i
