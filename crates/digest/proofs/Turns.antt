-- Turns, and lists that grow by a word a turn.
use Rattle.std.proofs.Common.{◌≡◌, ℕ, zero, suc, ◌+◌, ◌<◌, ◌≤◌, List, [], ◌∷◌, length, get_or, take, sym, refl, ap, ◌∙◌, add-zero, add-suc, add-one, arith}
use Rattle.std.proofs.lemmas.List.{length_push, take-append-le, take_all, get_or-take, get_or_at}
use Rattle.digest.specs.Rounds.{turned, grown}

-- one turn more
pub turned_more : {X : Type 0} (turn : X → ℕ → X) (x : X) (t : ℕ) (y : X) → y ≡ turned turn x t → turn y t ≡ turned turn x (t + 1)
unfolding turned
turned_more turn x t y e = rw add-one (ap (λ z. turn z t) e)

-- no turn yet
pub turned_none : {X : Type 0} (turn : X → ℕ → X) (x : X) → x ≡ turned turn x 0
unfolding turned
turned_none turn x = refl

-- n turns more
pub turned_on : {X : Type 0} (turn : X → ℕ → X) (x : X) (from n : ℕ) → turned (λ y t. turn y (from + t)) (turned turn x from) n ≡ turned turn x (from + n)
unfolding turned
turned_on turn x from zero = rw add-zero
turned_on turn x from (suc n) = rw add-suc (ap (λ y. turn y (from + n)) (turned_on turn x from n))

-- turns alike
pub turned_same : {X : Type 0} (turn other : X → ℕ → X) (x : X) (n : ℕ) → ((y : X) (t : ℕ) → turn y t ≡ other y t) → turned turn x n ≡ turned other x n
unfolding turned
turned_same turn other x zero same = refl
turned_same turn other x (suc t) same = ap (λ y. turn y t) (turned_same turn other x t same) ∙ same (turned other x t) t

pub turned_from : {X : Type 0} (turn : X → ℕ → X) (x : X) (from n : ℕ) {y z : X} → y ≡ turned turn x from → z ≡ turned (λ s t. turn s (from + t)) y n → z ≡ turned turn x (from + n)
turned_from turn x from n before more = more ∙ ap (λ y. turned (λ s t. turn s (from + t)) y n) before ∙ turned_on turn x from n

pub length_grown : (next : List ℕ → ℕ → ℕ) (n : ℕ) → length (grown next n) ≡ n
unfolding grown
length_grown next zero = refl
length_grown next (suc n) = length_push (grown next n) (next (grown next n) n) ∙ rw add-one (ap suc (length_grown next n))

-- the first words are those that grew first
pub take_grown : (next : List ℕ → ℕ → ℕ) (t more : ℕ) → take t (grown next (t + more)) ≡ grown next t
unfolding grown
take_grown next t zero = rw add-zero (take_all t (grown next t) (omega (arith, length_grown next t)))
take_grown next t (suc more) =
    let ws = grown next (t + more) in
    let fits : t ≤ length ws = omega (arith, length_grown next (t + more)) in
    rw add-suc (take-append-le t ws (next ws (t + more) ∷ []) fits ∙ take_grown next t more)

-- the word t follows from those before it
pub getD_grown : (next : List ℕ → ℕ → ℕ) (t more : ℕ) → get_or (grown next (t + 1 + more)) t 0 ≡ next (grown next t) t
unfolding grown
getD_grown next t more =
    let n = t + 1 + more in
    let below : t < t + 1 = omega arith in
    sym (get_or-take (t + 1) (grown next n) t 0 below) ∙ ap (λ ws. get_or ws t 0) (take_grown next (t + 1) more)
    ∙ rw add-one (get_or_at (grown next t) (next (grown next t) t) [] 0 t (length_grown next t))
