-- What is known where no ground of refusal holds, and where one does.
use Rattle.std.proofs.Common.{◌≡◌, ℕ, Bool, true, false, cond, not, eqb, List, [], ◌∷◌, ◌++◌, Some, None, Ok, Err, Option, sym, refl, ap, subst, arith}
use Rattle.refusal.specs.declared.Refusal.{Refusal}
use Rattle.refusal.specs.Numbers.{refusal_number}
use Rattle.protocol.specs.Slots.{SlotValue, SavingValue, FetchingValue, idle, saving, fetching, sweeping, is_idle, is_saving, is_fetching, is_sweeping, of_saving, of_fetching}
use Rattle.protocol.specs.State.{Setting, State}
use Rattle.protocol.specs.Calls.{Call}
use Rattle.protocol.specs.Grounds.{Ground, first_of}
use Rattle.protocol.specs.Steps.{or_refused, saving_of, fetching_of, sweeping_of}

-- ---- tables of grounds

abbrev pub NoneHolds : List Ground → Setting → Call → State → Type 0
NoneHolds [] S c s = Unit {0}
NoneHolds (g ∷ gs) S c s = (g.1 S c s ≡ false) × NoneHolds gs S c s

first_none : (b : Bool) (e : Refusal) (o : Option Refusal) → cond b (Some e) o ≡ None → (b ≡ false) × (o ≡ None)
first_none true e o h = absurd (grind arith)
first_none false e o h = (refl, h)

pub none_holds : (gs : List Ground) (S : Setting) (c : Call) (s : State) → first_of gs S c s ≡ None → NoneHolds gs S c s
none_holds [] S c s h = tt
none_holds (g ∷ gs) S c s h =
    let parts : (g.1 S c s ≡ false) × (first_of gs S c s ≡ None) = first_none (g.1 S c s) g.0 (first_of gs S c s) h in
    (parts.0, none_holds gs S c s parts.1)

abbrev pub then_first : Option Refusal → Option Refusal → Option Refusal
then_first None o = o
then_first (Some e) o = Some e

cond_then : (b : Bool) (e : Refusal) (o r : Option Refusal) → cond b (Some e) (then_first o r) ≡ then_first (cond b (Some e) o) r
cond_then true e o r = refl
cond_then false e o r = refl

pub first_of_both : (gs hs : List Ground) (S : Setting) (c : Call) (s : State) → first_of (gs ++ hs) S c s ≡ then_first (first_of gs S c s) (first_of hs S c s)
first_of_both [] hs S c s = refl
first_of_both (g ∷ gs) hs S c s = rw (first_of_both gs hs S c s) (cond_then (g.1 S c s) g.0 (first_of gs S c s) (first_of hs S c s))

-- none of the grounds has this number
abbrev pub NoneNumbered : ℕ → List Ground → Type 0
NoneNumbered n [] = Unit {0}
NoneNumbered n (g ∷ gs) = (eqb (refusal_number g.0) n ≡ false) × NoneNumbered n gs

first_some : (b : Bool) (a e : Refusal) (o : Option Refusal) (P : Refusal → Type 0) → P a → (o ≡ Some e → P e) → cond b (Some a) o ≡ Some e → P e
first_some true a e o P pa rest h = let same : a ≡ e = cc h in subst P same pa
first_some false a e o P pa rest h = rest h

pub other_number : (n : ℕ) (gs : List Ground) (S : Setting) (c : Call) (s : State) (e : Refusal) → NoneNumbered n gs → first_of gs S c s ≡ Some e → eqb (refusal_number e) n ≡ false
other_number n [] S c s e all h = absurd (grind arith)
other_number n (g ∷ gs) S c s e all h =
    first_some (g.1 S c s) g.0 e (first_of gs S c s) (λ r. eqb (refusal_number r) n ≡ false) all.0 (other_number n gs S c s e all.1) h

-- ---- answers

module _ {X : Type 0} where
  pub accepted : (g : Option Refusal) (a x : X) → Ok a ≡ or_refused g x → (g ≡ None) × (a ≡ x)
  accepted None a x h = (refl, cc h)
  accepted (Some e) a x h = absurd (grind arith)

  pub rejected : (g : Option Refusal) (e : Refusal) (x : X) → Err e ≡ or_refused g x → g ≡ Some e
  rejected None e x h = absurd (grind arith)
  rejected (Some f) e x h = let same : e ≡ f = cc h in ap (λ (r : Refusal). Some r) (sym same)

-- ---- slots

pub idle_is : (y : SlotValue) → not (is_idle y) ≡ false → y ≡ idle
idle_is idle h = refl
idle_is (saving x) h = absurd (grind arith)
idle_is (fetching x) h = absurd (grind arith)
idle_is (sweeping x) h = absurd (grind arith)

pub saving_is : (y : SlotValue) → not (is_saving y) ≡ false → y ≡ saving (saving_of y)
saving_is idle h = absurd (grind arith)
saving_is (saving x) h = refl
saving_is (fetching x) h = absurd (grind arith)
saving_is (sweeping x) h = absurd (grind arith)

pub fetching_is : (y : SlotValue) → not (is_fetching y) ≡ false → y ≡ fetching (fetching_of y)
fetching_is idle h = absurd (grind arith)
fetching_is (saving x) h = absurd (grind arith)
fetching_is (fetching x) h = refl
fetching_is (sweeping x) h = absurd (grind arith)

pub sweeping_is : (y : SlotValue) → not (is_sweeping y) ≡ false → y ≡ sweeping (sweeping_of y)
sweeping_is idle h = absurd (grind arith)
sweeping_is (saving x) h = absurd (grind arith)
sweeping_is (fetching x) h = absurd (grind arith)
sweeping_is (sweeping x) h = refl

pub of_saving_is : (y : SlotValue) (t : SavingValue → Bool) → not (is_saving y) ≡ false → of_saving y t ≡ false → t (saving_of y) ≡ false
of_saving_is idle t is h = absurd (grind arith)
of_saving_is (saving x) t is h = h
of_saving_is (fetching x) t is h = absurd (grind arith)
of_saving_is (sweeping x) t is h = absurd (grind arith)

pub of_fetching_is : (y : SlotValue) (t : FetchingValue → Bool) (b : Bool) → not (is_fetching y) ≡ false → of_fetching y t ≡ b → t (fetching_of y) ≡ b
of_fetching_is idle t b is h = absurd (grind arith)
of_fetching_is (saving x) t b is h = absurd (grind arith)
of_fetching_is (fetching x) t b is h = h
of_fetching_is (sweeping x) t b is h = absurd (grind arith)
