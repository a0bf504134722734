-- What is held by places: it stays of limited length, and the search by name finds the next name.
use Rattle.std.proofs.Common.{◌≡◌, ℕ, ◌≤◌, List, [], length, get_or, Some, sym, ap, ◌∙◌, subst, arith}
use Rattle.std.proofs.lemmas.Bool.Decides.{nat_tests}
use Rattle.byte_strings.specs.Order.{at_most, below}
use Rattle.byte_strings.specs.Least.{LeastAt}
use Rattle.bytemap.specs.Map.{Map, find, insert, remove, next_key, gathered}
use Rattle.bytemap.proofs.Find.{same_is, find_insert, find_remove}
use Rattle.bytemap.proofs.Next.{next_among, next_is_found}
use Rattle.cloud.specs.Meaning.{AllShort}

-- no places hold nothing
pub none_short : (ps : List (List ℕ × List ℕ)) → ps ≡ [] → AllShort (gathered ps)
unfolding find gathered
none_short ps e = rw e (λ n v f. absurd (grind arith))

module _ (held : Map (List ℕ)) (name : List ℕ) (short : AllShort held) where
  pub short_insert : (value : List ℕ) → length name ≤ 39 → length value ≤ 1024 → (held' : Map (List ℕ)) → held' ≡ insert held name value → AllShort held'
  short_insert value name_short value_short held' e =
      rw e (λ n v f. let s = same_is name n in let g = find_insert held name value n in let o = short n v in grind (arith, nat_tests))

  pub short_remove : (held' : Map (List ℕ)) → held' ≡ remove held name → AllShort held'
  short_remove held' e =
      rw e (λ n v f. let g = find_remove held name n in let o = short n v in grind (arith, nat_tests))

-- The search went through the slice xs of the places, and found the place p.
module _ (ps xs : List (List ℕ × List ℕ)) (same : xs ≡ ps) (above : List ℕ) (i : ℕ) (least : LeastAt (λ p. below above p.0) (λ p q. at_most p.0 q.0) xs (length xs) i) (p : List ℕ × List ℕ) (is : p ≡ get_or ps i p) where
  pub next_name : next_key (gathered ps) above ≡ Some p.0
  next_name = subst (λ ys. next_key (gathered ys) above ≡ Some (get_or ys i p).0) same (next_among xs above p (Some i) least) ∙ ap (λ q. Some q.0) (sym is)

  pub next_short : AllShort (gathered ps) → length p.0 ≤ 39
  next_short short = let f = next_is_found (gathered ps) above p.0 next_name in (short p.0 f.0 f.1).0
