-- A sweep over one kind of thing is a sweep over another that it stands for.
use Rattle.std.proofs.Common.{◌≡◌, ℕ, ◌<◌, List, length, get_or, set, Result, sym, ap, ◌∙◌, arith, length-set}
use Rattle.std.proofs.lemmas.List.{set-set, set-get_or}
use Rattle.refusal.specs.declared.Cause.{Cause}
use Rattle.cloud.specs.Meaning.{CloudMeaning}
use Rattle.cloud.specs.Outcomes.{Done, NextLength, NextOutcome, DropOutcome}
use Rattle.row.specs.Rows.{Called, no_cloud}
use Rattle.protocol.specs.Slots.{SweepingValue}
use Rattle.protocol.specs.Steps.{next_at, drop_at}
use Rattle.protocol.specs.Sweeping.{Gives, Going, Swept, begin, pass, drop, no_more, reached, next_refused, drop_refused, not_above, too_many}

-- f gives what a thing stands for; P is what holds of it all the way.
module _ {X Y : Type 0} (f : X → Y) (P : X → Type 0)
    {nexts : X → List ℕ → List ℕ → NextLength → List ℕ → X → Type 0} {drops : X → List ℕ → Done → X → Type 0}
    {nexts' : Y → List ℕ → List ℕ → NextLength → List ℕ → Y → Type 0} {drops' : Y → List ℕ → Done → Y → Type 0}
    (on_next : (s : X) (above place : List ℕ) (r : NextLength) (place' : List ℕ) (t : X) → P s → nexts s above place r place' t → nexts' (f s) above place r place' (f t) × P t)
    (on_drop : (s : X) (name : List ℕ) (r : Done) (t : X) → P s → drops s name r t → drops' (f s) name r (f t) × P t)
    {x : SweepingValue} where
  gives_carried : {a b : X} {last n : List ℕ} {seen : ℕ} → P a → Gives nexts drops x a last seen n b → Gives nexts' drops' x (f a) last seen n (f b) × P b
  gives_carried p g =
      let e = on_next _ _ _ _ _ _ p g.asked in
      (record { place = g.place; place' = g.place'; len = g.len; asked = e.0; name = g.name; ascends = g.ascends; few = g.few }, e.1)

  going_carried : {a b : X} {last : List ℕ} {seen dropped : ℕ} → P a → Going nexts drops x a b last seen dropped → Going nexts' drops' x (f a) (f b) last seen dropped × P b
  going_carried p begin = (begin, p)
  going_carried p (pass c g low other) =
      let h = going_carried p c in
      let k = gives_carried h.1 g in
      (pass h.0 k.0 low other, k.1)
  going_carried p (drop c g low named d) =
      let h = going_carried p c in
      let k = gives_carried h.1 g in
      let e = on_drop _ _ _ _ k.1 d in
      (drop h.0 k.0 low named e.0, e.1)

  pub swept_carried : {a b : X} {r : Result ℕ Cause} → P a → Swept nexts drops x a b r → Swept nexts' drops' x (f a) (f b) r × P b
  swept_carried p (no_more c asked) =
      let h = going_carried p c in
      let e = on_next _ _ _ _ _ _ h.1 asked in
      (no_more h.0 e.0, e.1)
  swept_carried p (reached c g past) =
      let h = going_carried p c in
      let k = gives_carried h.1 g in
      (reached h.0 k.0 past, k.1)
  swept_carried p (next_refused c asked) =
      let h = going_carried p c in
      let e = on_next _ _ _ _ _ _ h.1 asked in
      (next_refused h.0 e.0, e.1)
  swept_carried p (drop_refused c g low named d) =
      let h = going_carried p c in
      let k = gives_carried h.1 g in
      let e = on_drop _ _ _ _ k.1 d in
      (drop_refused h.0 k.0 low named e.0, e.1)
  swept_carried p (not_above c asked down) =
      let h = going_carried p c in
      let e = on_next _ _ _ _ _ _ h.1 asked in
      (not_above h.0 e.0 down, e.1)
  swept_carried p (too_many c asked many) =
      let h = going_carried p c in
      let e = on_next _ _ _ _ _ _ h.1 asked in
      (too_many h.0 e.0 many, e.1)

-- ---- from a row to what its clouds mean; the last two premises are the row's laws `nexting` and `dropping` at i

module _ {X : Type 0} (clouds : X → List CloudMeaning) (i : ℕ)
    {nexts : X → List ℕ → List ℕ → NextLength → List ℕ → X → Type 0} {drops : X → List ℕ → Done → X → Type 0}
    (nexting : (s : X) (above place : List ℕ) (r : NextLength) (place' : List ℕ) (t : X) → nexts s above place r place' t → next_at i (clouds s) above place r place' (clouds t))
    (dropping : (s : X) (name : List ℕ) (r : Done) (t : X) → drops s name r t → drop_at i (clouds s) name r (clouds t)) where
  pub swept_meaning : {x : SweepingValue} {a b : X} {r : Result ℕ Cause} → Swept nexts drops x a b r → Swept (next_at i) (drop_at i) x (clouds a) (clouds b) r
  swept_meaning c =
      (swept_carried clouds (λ _. Unit {0}) {nexts' = next_at i} {drops' = drop_at i} (λ s above place r place' t p e. (nexting s above place r place' t e, tt)) (λ s name r t p e. (dropping s name r t e, tt)) tt c).0

-- ---- from these to the one cloud that is swept; the others stay

abbrev cloud_at : ℕ → List CloudMeaning → CloudMeaning
cloud_at i ms = get_or ms i no_cloud

-- the row is still ms but for the cloud i
abbrev OnlyAt : List CloudMeaning → ℕ → List CloudMeaning → Type 0
OnlyAt ms i ns = ns ≡ set ms i (cloud_at i ns)

called_on : (ms : List CloudMeaning) (i : ℕ) (R : CloudMeaning → CloudMeaning → Type 0) (U : Type 0) (s t : List CloudMeaning) → i < length ms → OnlyAt ms i s → Called s i t R U → R (cloud_at i s) (cloud_at i t) × OnlyAt ms i t
called_on ms i R U s t h p c =
    let l : length s ≡ length ms = ap length p ∙ simp length-set in
    (c.here (omega arith), c.others ∙ ap (λ (xs : List CloudMeaning). set xs i (cloud_at i t)) p ∙ set-set ms i (cloud_at i s) (cloud_at i t))

pub swept_there : {x : SweepingValue} (i : ℕ) {ms ms' : List CloudMeaning} {r : Result ℕ Cause} → i < length ms → Swept (next_at i) (drop_at i) x ms ms' r → Swept NextOutcome DropOutcome x (cloud_at i ms) (cloud_at i ms') r × OnlyAt ms i ms'
swept_there i {ms} h c =
    swept_carried (cloud_at i) (OnlyAt ms i) (λ s above place r place' t p e. called_on ms i (λ m m'. NextOutcome m above place r place' m') _ s t h p e) (λ s name r t p e. called_on ms i (λ m m'. DropOutcome m name r m') _ s t h p e) (sym (set-get_or ms i no_cloud)) c
