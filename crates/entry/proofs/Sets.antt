-- Sets of clouds as bits.
use Rattle.std.proofs.Common.{◌≡◌, ℕ, ◌+◌, ◌*◌, ◌%◌, ◌^◌, ◌<◌, ◌≤◌, Bool, true, false, cond, List, [], ◌∷◌, length, refl, ap, arith}
use lib.Bits.{bit_or}
use lib.Count.{ones_step}
use Rattle.std.specs.Prelude.{◌/◌, count_ones}
use Rattle.std.proofs.lemmas.Bool.Decides.{nat_tests}
use Rattle.std.proofs.lemmas.Nat.{or_lt, pow_below, one_shl, ones_le_self}
use Rattle.entry.specs.Clouds.{lists, with_cloud, chosen, count}

-- a set with one of seven clouds more has no bit past the seventh
pub with_few : (set i : ℕ) → set ≤ 127 → i < 7 → bit_or set ((1 * 2 ^ i) % 256) ≤ 127
with_few set i few small =
    let shift = one_shl i 8 (omega arith) in
    let bit = pow_below i 7 small in
    let or = or_lt 7 set (2 ^ i) (omega arith) bit in
    let same : bit_or set ((1 * 2 ^ i) % 256) ≡ bit_or set (2 ^ i) = ap (λ k. bit_or set k) shift in
    omega arith

pub with_is : (set i : ℕ) → i < 7 → bit_or set ((1 * 2 ^ i) % 256) ≡ with_cloud set i
unfolding with_cloud
with_is set i small = ap (λ k. bit_or set k) (one_shl i 8 (omega arith))

chosen_more : (set i : ℕ) (is : List ℕ) → length (chosen set (i ∷ is)) ≡ cond (lists set i) 1 0 + length (chosen set is)
unfolding chosen
chosen_more set i is = by_test (lists set i)
  where
    by_test : (b : Bool) → length (cond b (i ∷ chosen set is) (chosen set is)) ≡ cond b 1 0 + length (chosen set is)
    by_test true = omega arith
    by_test false = omega arith

chosen_none : (set : ℕ) → length (chosen set []) ≡ 0
unfolding chosen
chosen_none set = refl

as_a_bit : (set i : ℕ) → cond (lists set i) 1 0 ≡ set / 2 ^ i % 2
as_a_bit set i = grind (arith, nat_tests)

-- There are as many clouds in the set as bits that are 1.
pub ones_are_clouds : (set : ℕ) → set ≤ 127 → count_ones set ≡ count set
unfolding count
ones_are_clouds set few =
    let k6 = chosen_more set 6 [] in
    let k5 = chosen_more set 5 (6 ∷ []) in
    let k4 = chosen_more set 4 (5 ∷ 6 ∷ []) in
    let k3 = chosen_more set 3 (4 ∷ 5 ∷ 6 ∷ []) in
    let k2 = chosen_more set 2 (3 ∷ 4 ∷ 5 ∷ 6 ∷ []) in
    let k1 = chosen_more set 1 (2 ∷ 3 ∷ 4 ∷ 5 ∷ 6 ∷ []) in
    let k0 = chosen_more set 0 (1 ∷ 2 ∷ 3 ∷ 4 ∷ 5 ∷ 6 ∷ []) in
    let end = chosen_none set in
    let s0 = ones_step set in
    let s1 = ones_step (set / 2) in
    let s2 = ones_step (set / 2 / 2) in
    let s3 = ones_step (set / 2 / 2 / 2) in
    let s4 = ones_step (set / 2 / 2 / 2 / 2) in
    let s5 = ones_step (set / 2 / 2 / 2 / 2 / 2) in
    let s6 = ones_step (set / 2 / 2 / 2 / 2 / 2 / 2) in
    let past = ones_le_self (set / 2 / 2 / 2 / 2 / 2 / 2 / 2) in
    omega (arith, as_a_bit set 0, as_a_bit set 1, as_a_bit set 2, as_a_bit set 3, as_a_bit set 4, as_a_bit set 5, as_a_bit set 6)
