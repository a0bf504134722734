-- The entries of one container: what they find, and how a search through records in any order finds the next key.
use Rattle.std.proofs.Common.{◌≡◌, ℕ, ◌<◌, Bool, true, false, cond, ◌&&◌, eqb, ltb, List, [], ◌∷◌, map, length, get_or, Some, None, Option, sym, refl, ap, ◌∙◌, subst, ⊎_elim}
use Rattle.std.specs.Str.{bytes_eq}
use Rattle.std.specs.Option.{option_map}
use Rattle.std.proofs.lemmas.Bool.{cases_Bool, both_ways, eqb-true, eq-eqb, and_from, and_parts}
use Rattle.byte_strings.specs.Order.{below, at_most}
use Rattle.byte_strings.specs.Least.{Least}
use Rattle.byte_strings.specs.OrderLaws.{below_heads}
use Rattle.bytemap.specs.Map.{Map, find, next_key, AllAbove, Ascending, gathered}
use Rattle.bytemap.proofs.Find.{find_cons, find_empty, find_gathered, none_or_some, ascending_gathered}
use Rattle.bytemap.proofs.Next.{next_none, next_some, found_at, found_from}
use Rattle.directory.specs.Meaning.{address, contents, with_key}

module _ {V : Type 0} where
  find_with_key : (c : ℕ) (a : List ℕ) (v : V) (m : Map V) (k : List ℕ) → find (with_key c a v m) k ≡ cond (bytes_eq a (address c k)) (Some v) (find m k)
  find_with_key c [] v m k = refl
  find_with_key c (x ∷ key) v m k =
      ⊎_elim (λ (h : eqb x c ≡ true). rw h (find_cons (key, v) m k)) (λ (h : eqb x c ≡ false). rw h) (cases_Bool (eqb x c))

  pub find_contents : (c : ℕ) (m : Map V) (k : List ℕ) → find (contents c m) k ≡ find m (address c k)
  unfolding contents
  find_contents c [] k = find_empty k ∙ sym (find_empty (address c k))
  find_contents c (p ∷ m) k =
      find_with_key c p.0 p.1 (contents c m) k ∙ ap (cond (bytes_eq p.0 (address c k)) (Some p.1)) (find_contents c m k)
      ∙ sym (find_cons p m (address c k))

  all_above_with_key : (c : ℕ) (k a : List ℕ) (v : V) (m : Map V) → below (address c k) a ≡ true → AllAbove k m → AllAbove k (with_key c a v m)
  all_above_with_key c k [] v m h q = q
  all_above_with_key c k (x ∷ key) v m h q =
      ⊎_elim
      (λ (e : eqb x c ≡ true).
      let f = eq-eqb c x (sym (eqb-true x c e)) in
      let b : below k key ≡ true = rw f at (sym (below_heads c x k key) ∙ h) in
      rw e (b, q))
      (λ (e : eqb x c ≡ false). rw e q) (cases_Bool (eqb x c))

  -- keys of one container ascend as their addresses do
  all_above_contents : (c : ℕ) (k : List ℕ) (m : Map V) → AllAbove (address c k) m → AllAbove k (contents c m)
  unfolding contents
  all_above_contents c k [] q = tt
  all_above_contents c k (p ∷ m) q = all_above_with_key c k p.0 p.1 (contents c m) q.0 (all_above_contents c k m q.1)

  ascending_with_key : (c : ℕ) (a : List ℕ) (v : V) (m : Map V) → ((k : List ℕ) → a ≡ address c k → AllAbove k m) → Ascending m → Ascending (with_key c a v m)
  ascending_with_key c [] v m h q = q
  ascending_with_key c (x ∷ key) v m h q =
      ⊎_elim (λ (e : eqb x c ≡ true). rw e (h key (ap (λ y. y ∷ key) (eqb-true x c e)), q)) (λ (e : eqb x c ≡ false). rw e q) (cases_Bool (eqb x c))

  pub ascending_contents : (c : ℕ) (m : Map V) → Ascending m → Ascending (contents c m)
  unfolding contents
  ascending_contents c [] q = tt
  ascending_contents c (p ∷ m) q = ascending_with_key c p.0 p.1 (contents c m) (λ k e. all_above_contents c k m (subst (λ a. AllAbove a m) e q.0)) (ascending_contents c m q.1)

-- ---- a search through records

-- f gives a record's container, key and entry
module _ {X V : Type 0} (container : X → ℕ) (key : X → List ℕ) (value : X → V) where
  abbrev pub pair_of : X → List ℕ × V
  pair_of x = (address (container x) (key x), value x)

  -- a record of the container c, above the bytes
  abbrev pub key_passes : ℕ → List ℕ → X → Bool
  key_passes c above x = eqb c (container x) && below above (key x)

  abbrev pub record_le : X → X → Bool
  record_le x y = cond (eqb (container x) (container y)) (at_most (key x) (key y)) (ltb (container x) (container y))

  -- a record with a key that is found
  record_of : (xs : List X) (c : ℕ) (k : List ℕ) (v : V) → find (contents c (gathered (map pair_of xs))) k ≡ Some v
      → (i : ℕ) × (i < length xs) × ((d : X) → (container (get_or xs i d) ≡ c) × (key (get_or xs i d) ≡ k))
  record_of xs c k v e =
      let ps = map pair_of xs in
      let r = found_at pair_of xs (address c k) v (sym (find_gathered ps (address c k)) ∙ sym (find_contents c (gathered ps) k) ∙ e) in
      (r.0, r.1, λ d. let a = r.2 d in (cc, cc))

  pub next_from_records : (xs : List X) (c : ℕ) (above : List ℕ) (d : X) (r : Option ℕ) → Least (key_passes c above) record_le xs (length xs) r
      → next_key (contents c (gathered (map pair_of xs))) above ≡ option_map (λ i. key (get_or xs i d)) r
  next_from_records xs c above d None h =
      let m = contents c (gathered (map pair_of xs)) in
      next_none m above
      (λ k t. ⊎_elim (λ e. e)
      (λ s.
      let r = record_of xs c k s.0 s.1 in
      let x = get_or xs r.0 d in
      let p : key_passes c above x ≡ true = and_from (eqb c (container x)) (below above (key x)) (eq-eqb c (container x) (sym (r.2 d).0)) (subst (λ y. below above y ≡ true) (sym (r.2 d).1) t) in
      absurd (both_ways _ (h r.0 r.1 d) p))
      (none_or_some (find m k)))
  next_from_records xs c above d (Some i) h =
      let ps = map pair_of xs in
      let m = contents c (gathered ps) in
      let x = get_or xs i d in
      let here = and_parts (eqb c (container x)) (below above (key x)) (h.passing d) in
      let at : container x ≡ c = sym (eqb-true c (container x) here.0) in
      let f = found_from pair_of xs i d h.within in
      let e : find m (key x) ≡ Some f.0 = find_contents c (gathered ps) (key x) ∙ find_gathered ps (address c (key x)) ∙ subst (λ y. find ps (address y (key x)) ≡ Some f.0) at f.1 in
      next_some m above (key x) f.0 (ascending_contents c (gathered ps) (ascending_gathered ps)) here.1 e
      (λ k w t g.
      let r = record_of xs c k w g in
      let y = get_or xs r.0 d in
      let p : key_passes c above y ≡ true = and_from (eqb c (container y)) (below above (key y)) (eq-eqb c (container y) (sym (r.2 d).0)) (subst (λ z. below above z ≡ true) (sym (r.2 d).1) t) in
      let q = eq-eqb (container x) (container y) (at ∙ sym (r.2 d).0) in
      let l : at_most (key x) (key y) ≡ true = rw q at (h.least r.0 r.1 d p) in
      subst (λ z. at_most (key x) z ≡ true) (r.2 d).1 l)
