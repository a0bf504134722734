-- What places hold: clauses see each as the pair of its name and its value.
use Rattle.std.specs.Prelude.{◌≡◌, ℕ, ◌-◌, ◌≤◌, true, List, [], length}
use Rattle.std.proofs.Common.{arith}
use Rattle.std.proofs.Math.Nat.{sub-zero}
use Rattle.bytemap.specs.Map.{gathered, all_different}
use Rattle.bytemap.proofs.Find.{ascending_gathered}
use Rattle.bytemap.proofs.Pairs.{distinct_from, length_gathered}
use Rattle.cloud.specs.Meaning.{CloudMeaning, AllShort, WithinLimits}

-- a cloud with these places in use, of as many as the limit
abbrev pub meaning_of : List (List ℕ × List ℕ) → ℕ → CloudMeaning
meaning_of ps limit = record { sound = true; held = gathered ps; free = limit - length ps }

pub within_limits : (ps : List (List ℕ × List ℕ)) (limit : ℕ) → all_different ps ≡ true → AllShort (gathered ps) → length ps ≤ limit → limit ≤ 32 → WithinLimits (meaning_of ps limit)
within_limits ps limit different short used few =
    record {
      ascending = ascending_gathered ps;
      short = short;
      places = omega (arith, length_gathered ps (distinct_from ps different));
    }

-- no places hold nothing
pub empty_meaning : (ps : List (List ℕ × List ℕ)) (limit : ℕ) → ps ≡ [] → meaning_of ps limit ≡ record { sound = true; held = []; free = limit }
unfolding gathered
empty_meaning ps limit e = rw (e, sub-zero)
