-- A name that Next gave, out of its place.
use Rattle.std.proofs.Common.{◌≡◌, ℕ, suc, ◌+◌, ◌<◌, ◌≤◌, Bool, true, false, List, length, take, IfSome, IfOk, Some, None, Ok, Err, Option, Result, sym, refl, ap, ◌∙◌, subst, ⊎_elim, arith, length-take, MatchOption}
use Rattle.std.proofs.lemmas.Bool.{cases_lt}
use Rattle.refusal.specs.declared.Cause.{Cause}
use Rattle.refusal.specs.declared.CloudFault.{CloudFault}
use Rattle.refusal.specs.declared.Cause.TheVariants.{Silent, BadListing}
use Rattle.naming.specs.declared.name.Name.{Name}
use Rattle.naming.specs.Names.{IsNameOf}
use Rattle.cloud.specs.Meaning.{CloudMeaning, longest_name}
use Rattle.cloud.specs.Outcomes.{Done, NextLength, NextOutcome}
use Rattle.byte_strings.specs.Order.{below}
use Rattle.row.specs.Rows.{Called, numbered}
use Rattle.protocol.specs.Slots.{SweepingValue}
use Rattle.protocol.specs.Sweeping.{most_names, sweep_bound, Gives, Going, Swept, pass, drop, drop_refused, no_more, reached, not_above, too_many}
use Rattle.sweeping.specs.Answers.{said, Given, Asked}

-- no cloud of a row answers a length above that of the place, and where there is no cloud there is no length
pub length_fits : {ms ms' : List CloudMeaning} {i : ℕ} {above place : List ℕ} {r : NextLength} {place' : List ℕ} → Called ms i ms' (λ m m'. NextOutcome m above place r place' m') ((r ≡ Err Silent) × (place' ≡ place))
    → IfOk r (λ o. IfSome o (λ n. n ≤ longest_name))
length_fits {ms} {ms'} {i} c =
    ⊎_elim (λ (h : i < length ms). (c.here h).within) (λ (h : length ms ≤ i). rw (c.unknown h).0 tt) (cases_lt i (length ms))

module _ {X : Type 0} (nexts : X → List ℕ → List ℕ → NextLength → List ℕ → X → Type 0) {a b : X} {above place place' last : List ℕ} {o : Option ℕ} {len : ℕ} where
  pub name_read : nexts a above place (Ok o) place' b → IfOk {E = Cause} (Ok o) (λ o. IfSome o (λ n. n ≤ longest_name)) → o ≡ Some len → above ≡ last
      → (r : Option Name) → MatchOption r (longest_name < length (take len place')) (λ n. (length (take len place') ≤ longest_name) × (n ≡ take len place')) → Asked nexts a last (Ok r) b
  name_read asked fits is from None long =
      let f : len ≤ longest_name = rw is at fits in
      let l : length (take len place') ≤ len = rw length-take (omega arith) in
      absurd (omega arith)
  name_read asked fits is from (Some n) h =
      record { len = len; exchange = record { place = place; place' = place'; asked = rw (from, is) at asked }; name = h.1 }

one_more : (n : ℕ) → suc n ≡ n + 1
one_more n = omega arith

-- ---- the answer as a link of the chain

by_bound : (n : List ℕ) {bound bound' : List ℕ} {v : Bool} → bound ≡ bound' → v ≡ below n bound → below n bound' ≡ v
by_bound n bounded e = ap (below n) (sym bounded) ∙ sym e

module _ {X : Type 0} (nexts : X → List ℕ → List ℕ → NextLength → List ℕ → X → Type 0) (drops : X → List ℕ → Done → X → Type 0) (x : SweepingValue) {a b c : X} {last : List ℕ} {seen dropped : ℕ} (going : Going nexts drops x a b last seen dropped) {o : Option Name} (asked : Asked nexts b last (Ok o) c) where
  pub ends : o ≡ None → Swept nexts drops x a c (Ok dropped)
  ends is = no_more going (subst (λ (o : Option Name). Asked nexts b last (Ok o) c) is asked).asked

  module _ {n : Name} (is : o ≡ Some n) where
    given : Given nexts b last n c
    given = subst (λ (o : Option Name). Asked nexts b last (Ok o) c) is asked

    pub falls : false ≡ below last n → Swept nexts drops x a c (Err BadListing)
    falls down = not_above going given.exchange.asked (rw given.name at (sym down))

    pub exceeds : most_names ≤ seen → Swept nexts drops x a c (Err BadListing)
    exceeds many = too_many going given.exchange.asked many

    module _ (up : true ≡ below last n) (few : seen < most_names) {bound : List ℕ} (bounded : bound ≡ sweep_bound x) where
      gives : Gives nexts drops x b last seen n c
      gives = let g = given in record { place = g.exchange.place; place' = g.exchange.place'; len = g.len; asked = g.exchange.asked; name = g.name; ascends = sym up; few = few }

      pub reaches : false ≡ below n bound → Swept nexts drops x a c (Ok dropped)
      reaches past = reached going gives (by_bound n bounded past)

      module _ (low : true ≡ below n bound) {bytes : List ℕ} (lent : bytes ≡ n) where
        pub passes : (IsNameOf bytes x.container x.key → ⊥) → Going nexts drops x a c n (seen + 1) dropped
        passes other = subst (λ (k : ℕ). Going nexts drops x a c n k dropped) (one_more seen) (pass going gives (by_bound n bounded low) (rw lent at other))

        module _ (named : IsNameOf bytes x.container x.key) {bytes' : List ℕ} (lent' : bytes' ≡ n) {d : X} where
          pub goes : drops c bytes' (Ok tt) d → Going nexts drops x a d n (seen + 1) (dropped + 1)
          goes done =
              subst (λ (k : ℕ). Going nexts drops x a d n (seen + 1) k) (one_more dropped) (subst (λ (k : ℕ). Going nexts drops x a d n k (suc dropped)) (one_more seen) (drop going gives (by_bound n bounded low) (rw lent at named) (rw lent' at done)))

          pub refused : {e : Cause} → drops c bytes' (Err e) d → Swept nexts drops x a d (Err e)
          refused done = drop_refused going gives (by_bound n bounded low) (rw lent at named) (rw lent' at done)

-- ---- the cloud's number at the answer, and off it

said_numbered : {T : Type 0} (i : ℕ) (r : Result T Cause) → said (numbered i r) ≡ r
said_numbered i (Ok t) = refl
said_numbered i (Err e) = refl

pub said_at : {T : Type 0} (i : ℕ) (s : Result T Cause) (r : Result T CloudFault) → r ≡ numbered i s → said r ≡ s
said_at i s r e = ap said e ∙ said_numbered i s
