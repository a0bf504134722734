-- Sets of clouds by their bits.
use Rattle.std.proofs.Common.{◌≡◌, ℕ, zero, suc, ◌+◌, ◌-◌, ◌*◌, ◌/◌, ◌%◌, ◌^◌, ◌<◌, ◌≤◌, true, false, eqb, ◌⊎◌, List, [], ◌∷◌, length, sym, refl, ap, ◌∙◌, inl, inr, ⊎_elim, arith, pow-add}
use mathlib.Core.List.{Memᴰ}
use native.Mathlib.Decide.{ℕ_discrete}
use lib.Bits.{bit_or, or_shr, or_mod, or_zero_r, shifted_even}
use lib.Pow.{high, pow-lt, shl-shr}
use Rattle.std.proofs.lemmas.Bool.{cases_Bool, cases_lt}
use Rattle.entry.specs.Clouds.{lists, with_cloud, chosen, all_clouds, count}
use Rattle.history.specs.Promises.{Different}

-- ---- one cloud more

higher_bit : (i j : ℕ) → i < j → 2 ^ i / 2 ^ j % 2 ≡ 0
higher_bit i j l =
    let q : (0 * 2 ^ j + 2 ^ i) / 2 ^ j ≡ 0 = high 0 j (pow-lt l) in
    let z : 0 * 2 ^ j + 2 ^ i ≡ 2 ^ i = omega arith in
    let e : 2 ^ i / 2 ^ j ≡ 0 = ap (λ n. n / 2 ^ j) (sym z) ∙ q in
    ap (λ n. n % 2) e

lower_bit : (i j : ℕ) → j < i → 2 ^ i / 2 ^ j % 2 ≡ 0
lower_bit i j l =
    let m : ℕ = i - j - 1 in
    let sum : suc m + j ≡ i = omega arith in
    let e : 2 ^ i ≡ 2 ^ suc m * 2 ^ j = ap (λ n. 2 ^ n) (sym sum) ∙ pow-add 2 (suc m) j in
    let q : 2 ^ i / 2 ^ j ≡ 2 ^ suc m = ap (λ n. n / 2 ^ j) e ∙ shl-shr (2 ^ suc m) j in
    let one : 1 * 2 ^ suc m ≡ 2 ^ suc m = omega arith in
    ap (λ n. n % 2) (q ∙ sym one) ∙ shifted_even 1 m

other_bit : (i j : ℕ) → (j ≡ i → ⊥) → 2 ^ i / 2 ^ j % 2 ≡ 0
other_bit i j n = ⊎_elim (λ (l : i < j). higher_bit i j l) (λ (l : j ≤ i). lower_bit i j (omega arith)) (cases_lt i j)

pub with_cloud_others : (set i j : ℕ) → (j ≡ i → ⊥) → lists (with_cloud set i) j ≡ lists set j
unfolding with_cloud
with_cloud_others set i j n =
    let a : bit_or set (2 ^ i) / 2 ^ j ≡ bit_or (set / 2 ^ j) (2 ^ i / 2 ^ j) = or_shr set (2 ^ i) j in
    let b : bit_or (set / 2 ^ j) (2 ^ i / 2 ^ j) % 2 ^ 1 ≡ bit_or (set / 2 ^ j % 2 ^ 1) (2 ^ i / 2 ^ j % 2 ^ 1) = or_mod (set / 2 ^ j) (2 ^ i / 2 ^ j) 1 in
    let z : 2 ^ i / 2 ^ j % 2 ^ 1 ≡ 0 = other_bit i j n in
    let c : bit_or (set / 2 ^ j % 2 ^ 1) (2 ^ i / 2 ^ j % 2 ^ 1) ≡ set / 2 ^ j % 2 ^ 1 = ap (λ x. bit_or (set / 2 ^ j % 2 ^ 1) x) z ∙ or_zero_r (set / 2 ^ j % 2 ^ 1) in
    let d : bit_or set (2 ^ i) / 2 ^ j % 2 ≡ set / 2 ^ j % 2 = ap (λ x. x % 2 ^ 1) a ∙ b ∙ c in
    ap (λ x. eqb x 1) d

pub with_cloud_is : (set i j : ℕ) → lists (with_cloud set i) j ≡ true → (j ≡ i) ⊎ ((j ≡ i → ⊥) × (lists set j ≡ true))
with_cloud_is set i j h = elim (ℕ_discrete j i) [ yes e ↦ inl e | no n ↦ inr (n, sym (with_cloud_others set i j n) ∙ h) ]

pub none_listed : (i : ℕ) → lists 0 i ≡ true → ⊥
none_listed i h =
    let q : (0 * 2 ^ i + 0) / 2 ^ i ≡ 0 = high 0 i (pos i) in
    let z : 0 * 2 ^ i + 0 ≡ 0 = omega arith in
    let e : 0 / 2 ^ i ≡ 0 = ap (λ n. n / 2 ^ i) (sym z) ∙ q in
    let f : lists 0 i ≡ false = ap (λ n. eqb (n % 2) 1) e in
    absurd (grind arith)
  where
    pos : (k : ℕ) → 0 < 2 ^ k
    pos zero = omega arith
    pos (suc k) = let l : 2 ^ 0 < 2 ^ suc k = pow-lt {i = 0} {j = suc k} (omega arith) in omega arith

-- ---- the clouds of a set

pub chosen_is : (set : ℕ) (is : List ℕ) (i : ℕ) → Memᴰ i (chosen set is) → (lists set i ≡ true) × Memᴰ i is
unfolding chosen
chosen_is set [] i m = elim m [ ]
chosen_is set (j ∷ is) i m = ⊎_elim
    (λ (b : lists set j ≡ true). ⊎_elim
    (λ (e : i ≡ j). (ap (λ n. lists set n) e ∙ b, mathlib.Core.List.Memᴰ.head e))
    (λ (r : Memᴰ i (chosen set is)). let rest = chosen_is set is i r in (rest.0, mathlib.Core.List.Memᴰ.tail rest.1))
    (mathlib.Core.List.Memᴰ.cases_cons (rw b at m)))
    (λ (b : lists set j ≡ false). let r : Memᴰ i (chosen set is) = rw b at m in let rest = chosen_is set is i r in (rest.0, mathlib.Core.List.Memᴰ.tail rest.1))
    (cases_Bool (lists set j))

chosen_differ : (set : ℕ) (is : List ℕ) → Different is → Different (chosen set is)
unfolding chosen
chosen_differ set [] d = tt
chosen_differ set (j ∷ is) d = ⊎_elim
    (λ (b : lists set j ≡ true). rw b ((λ m. d.0 (chosen_is set is j m).1), chosen_differ set is d.1))
    (λ (b : lists set j ≡ false). rw b (chosen_differ set is d.1))
    (cases_Bool (lists set j))

abbrev Over : ℕ → List ℕ → Type 0
Over n [] = Unit {0}
Over n (m ∷ ms) = (n < m) × Over n ms

not_in : (n : ℕ) (ms : List ℕ) → Over n ms → Memᴰ n ms → ⊥
not_in n [] o m = elim m [ ]
not_in n (k ∷ ms) o m = ⊎_elim (λ (e : n ≡ k). let l : n < k = o.0 in omega arith) (λ (r : Memᴰ n ms). not_in n ms o.1 r) (mathlib.Core.List.Memᴰ.cases_cons m)

seven_differ : Different all_clouds
seven_differ = (
  not_in 0 _ (omega arith, (omega arith, (omega arith, (omega arith, (omega arith, (omega arith, tt)))))),
  (
    not_in 1 _ (omega arith, (omega arith, (omega arith, (omega arith, (omega arith, tt))))),
    (
      not_in 2 _ (omega arith, (omega arith, (omega arith, (omega arith, tt)))),
      (not_in 3 _ (omega arith, (omega arith, (omega arith, tt))), (not_in 4 _ (omega arith, (omega arith, tt)), (not_in 5 _ (omega arith, tt), (not_in 6 _ tt, tt)))),
    ),
  ),
)

-- the clouds of a set are different, and as many as it counts
pub listed_differ : (set : ℕ) → Different (chosen set all_clouds)
listed_differ set = chosen_differ set all_clouds seven_differ

pub listed_count : (set : ℕ) → length (chosen set all_clouds) ≡ count set
unfolding count
listed_count set = refl
