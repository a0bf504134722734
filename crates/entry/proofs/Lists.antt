-- A list of clouds, one bit each.
use Rattle.std.proofs.Common.{◌≡◌, ℕ, ◌+◌, ◌-◌, ◌/◌, ◌%◌, ◌^◌, ◌≤◌, false, eqb, ap, ◌∙◌, arith}
use Rattle.std.proofs.lemmas.Nat.{shr-shr, shr_le}
use Rattle.entry.specs.Clouds.{lists}

-- a list of eight bits has no cloud 8
pub past_the_list : (clouds i : ℕ) → clouds ≤ 127 → 8 ≤ i → lists clouds i ≡ false
past_the_list clouds i few far =
    let j : 8 + (i - 8) ≡ i = omega arith in
    let e : clouds / 2 ^ 8 / 2 ^ (i - 8) ≡ clouds / 2 ^ i = shr-shr clouds 8 (i - 8) ∙ ap (λ k. clouds / 2 ^ k) j in
    let l = shr_le (clouds / 2 ^ 8) (i - 8) in
    let z : clouds / 2 ^ i ≡ 0 = omega arith in
    ap (λ q. eqb (q % 2) 1) z
