-- What a faulty cloud does where no fault is left but passing on, and the bounds that hold with any.
use Rattle.std.specs.Prelude.{◌≡◌, ℕ, ◌≤◌, true, ◌&&◌, List, [], ◌∷◌, length, None, IfSome, IfOk, refl}
use Rattle.std.proofs.Common.{sym, ◌∙◌, ap, subst, arith}
use Rattle.std.proofs.lemmas.Bool.{and_parts}
use Rattle.std.proofs.Math.Bool.{and-true}
use Rattle.cloud.specs.Meaning.{CloudMeaning, WithinLimits, longest_name}
use Rattle.cloud.specs.Outcomes.{Done, Length, NextLength, PutOutcome, GetOutcome, DropOutcome, NextOutcome}
use Rattle.cloud_faulty.specs.declared.fault.Fault.{Fault}
use Rattle.cloud_faulty.specs.declared.fault.Fault.TheVariants.{Pass, Silence, FalseSuccess, FlippedBit}
use Rattle.cloud_faulty.specs.Faults.{first, rest, UsedUp, is_pass, all_pass}
use Rattle.cloud_faulty.specs.Layer.{faulty_meaning, AnsweredBy, GetBy}

pass_is : (f : Fault) → is_pass f ≡ true → f ≡ Pass
pass_is Pass h = refl
pass_is Silence h = absurd (grind arith)
pass_is FalseSuccess h = absurd (grind arith)
pass_is FlippedBit h = absurd (grind arith)

passing_on : (fs : List Fault) → all_pass fs ≡ true → (first fs ≡ Pass) × (all_pass (rest fs) ≡ true)
passing_on [] h = (refl, refl)
passing_on (f ∷ fs) h =
    let parts = and_parts (is_pass f) (all_pass fs) h in
    (pass_is f parts.0, parts.1)

-- passing on, it means what the cloud below means
same_meaning : (m : CloudMeaning) (fs : List Fault) → all_pass fs ≡ true → faulty_meaning m fs ≡ m
same_meaning m fs h = rw (h, and-true m.sound)

pub limited : (m : CloudMeaning) (fs : List Fault) → WithinLimits m → WithinLimits (faulty_meaning m fs)
limited m fs l = record { ascending = l.ascending; short = l.short; places = l.places }

module _ (m m' : CloudMeaning) (fs fs' : List Fault) (used : UsedUp fs fs') where
  -- a call that was passed on, as one at the layer
  module _ (R : CloudMeaning → CloudMeaning → Type 0) where
    carried : all_pass fs ≡ true → R m m' → R (faulty_meaning m fs) (faulty_meaning m' fs')
    carried passing h =
        let later : all_pass fs' ≡ true = ap all_pass used ∙ (passing_on fs passing).1 in
        subst (λ x. R x (faulty_meaning m' fs')) (sym (same_meaning m fs passing)) (subst (λ y. R m y) (sym (same_meaning m' fs' later)) h)

    -- where the layer is sound, the call was passed on: the fault F is then Pass
    passed_on : (F : Fault → Type 0) → F (first fs) → (F Pass → R m m') → m.sound && all_pass fs ≡ true → R (faulty_meaning m fs) (faulty_meaning m' fs')
    passed_on F h law sound =
        let passing = (and_parts m.sound (all_pass fs) sound).1 in
        carried passing (law (subst F (passing_on fs passing).0 h))

  module _ (passed unasked : Type 0) where
    pub put_law : (name value : List ℕ) (r : Done) → (passed → PutOutcome m name value r m') → AnsweredBy (first fs) passed unasked tt r → PutOutcome (faulty_meaning m fs) name value r (faulty_meaning m' fs')
    put_law name value r law h =
        let on = passed_on (λ x y. PutOutcome x name value r y) (λ f. AnsweredBy f passed unasked tt r) h law in
        record { answer = λ s. (on s).answer s; after = λ s. (on s).after s }

    pub drop_law : (name : List ℕ) (r : Done) → (passed → DropOutcome m name r m') → AnsweredBy (first fs) passed unasked tt r → DropOutcome (faulty_meaning m fs) name r (faulty_meaning m' fs')
    drop_law name r law h =
        let on = passed_on (λ x y. DropOutcome x name r y) (λ f. AnsweredBy f passed unasked tt r) h law in
        record { answer = λ s. (on s).answer s; after = λ s. (on s).after s }

    module _ (above place : List ℕ) (r : NextLength) (place' : List ℕ) (law : passed → NextOutcome m above place r place' m') where
      next_within : (f : Fault) → AnsweredBy f passed unasked None r → IfOk r (λ o. IfSome o (λ n. n ≤ longest_name))
      next_within Pass h = (law h).within
      next_within Silence h = rw h.1 tt
      next_within FalseSuccess h = rw h.1 tt
      next_within FlippedBit h = (law h).within

      pub next_law : AnsweredBy (first fs) passed unasked None r → NextOutcome (faulty_meaning m fs) above place r place' (faulty_meaning m' fs')
      next_law h =
          let on = passed_on (λ x y. NextOutcome x above place r place' y) (λ f. AnsweredBy f passed unasked None r) h law in
          record { within = next_within (first fs) h; answer = λ s. (on s).answer s; written = λ s. (on s).written s; after = λ s. (on s).after s }

  module _ (passed : List ℕ → Type 0) (unasked : Type 0) (name part : List ℕ) (r : Length) (part' : List ℕ) (law : (written : List ℕ) → passed written → GetOutcome m name part r written m') where
    get_within : (f : Fault) → GetBy f passed unasked r part' → IfOk r (λ n. n ≤ length part)
    get_within Pass h = (law part' h).within
    get_within Silence h = rw h.1 tt
    get_within FalseSuccess h = rw h.1 (omega arith)
    get_within FlippedBit h = (law h.0 h.1.0).within

    pub get_law : GetBy (first fs) passed unasked r part' → GetOutcome (faulty_meaning m fs) name part r part' (faulty_meaning m' fs')
    get_law h =
        let on = passed_on (λ x y. GetOutcome x name part r part' y) (λ f. GetBy f passed unasked r part') h (law part') in
        record { within = get_within (first fs) h; answer = λ s. (on s).answer s; written = λ s. (on s).written s; after = λ s. (on s).after s }
