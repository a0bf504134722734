-- Going through a map from key to next key.
use Rattle.std.proofs.Common.{◌≡◌, ℕ, suc, ◌≤◌, true, List, [], ◌∷◌, length, Some, None, refl, ap, arith}
use lib.ListN.{length-map}
use Rattle.byte_strings.specs.Order.{below}
use Rattle.byte_strings.specs.OrderLaws.{below_irreflexive}
use Rattle.bytemap.specs.Map.{Map, next_key, beyond, keys, AllAbove, Ascending}
use Rattle.bytemap.proofs.Find.{all_above_weaker, below_asymmetric}

module _ {V : Type 0} where
  pub beyond_all : (a : List ℕ) (m : Map V) → AllAbove a m → beyond a m ≡ m
  unfolding beyond
  beyond_all a [] q = refl
  beyond_all a (p ∷ m) q = let r = beyond_all a m q.1 in let t = q.0 in grind arith

  pub next_all_above : (a b n : List ℕ) (m : Map V) → AllAbove b m → next_key m a ≡ Some n → below b n ≡ true
  unfolding next_key
  next_all_above a b n [] q e = absurd (grind arith)
  next_all_above a b n (p ∷ m) q e = let r = next_all_above a b n m q.1 in let t = q.0 in grind arith

  pub beyond_none : (a : List ℕ) (m : Map V) → next_key m a ≡ None → beyond a m ≡ []
  unfolding beyond next_key
  beyond_none a [] e = refl
  beyond_none a (p ∷ m) e = let r = beyond_none a m in grind arith

  first_next : (a : List ℕ) (p : List ℕ × V) (m : Map V) → AllAbove p.0 m → below a p.0 ≡ true → keys (beyond a (p ∷ m)) ≡ p.0 ∷ keys (beyond p.0 (p ∷ m))
  unfolding beyond
  first_next a p m above s =
      let i = below_irreflexive p.0 in
      let b = beyond_all a m (all_above_weaker a p.0 m s above) in
      let c = beyond_all p.0 m above in
      grind arith

  -- the next key, and then what is beyond it
  pub beyond_next : (a n : List ℕ) (m : Map V) → Ascending m → next_key m a ≡ Some n → keys (beyond a m) ≡ n ∷ keys (beyond n m)
  unfolding beyond next_key
  beyond_next a n [] asc e = absurd (grind arith)
  beyond_next a n (p ∷ m) asc e =
      let f = first_next a p m asc.0 in
      let r = beyond_next a n m asc.1 in
      let u = next_all_above a p.0 n m asc.0 in
      let v = below_asymmetric p.0 n in
      grind arith

  pub length_beyond : (a : List ℕ) (m : Map V) → length (beyond a m) ≤ length m
  unfolding beyond
  length_beyond a [] = omega arith
  length_beyond a (p ∷ m) = let l = length_beyond a m in grind arith

  -- one key less lies beyond the next
  pub beyond_fewer : (a n : List ℕ) (m : Map V) → Ascending m → next_key m a ≡ Some n → length (beyond a m) ≡ suc (length (beyond n m))
  beyond_fewer a n m asc e =
      let l = ap length (beyond_next a n m asc e) in
      simp length-map at l
