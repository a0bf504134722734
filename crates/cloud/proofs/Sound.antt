-- Laws of sound clouds.
use Rattle.std.proofs.Common.{◌≡◌, ℕ, ◌≤◌, true, List, ◌∷◌, length, take, drop, Some, None, Ok, Err, Option, sym, refl, ap, ◌∙◌, subst, arith}
use Rattle.std.proofs.lemmas.List.{take_at}
use Rattle.std.proofs.lemmas.Bool.{le-leb}
use Rattle.bytemap.specs.Map.{find, next_key, beyond, keys, Ascending}
use Rattle.bytemap.proofs.Find.{apart, same_self, find_insert, find_remove}
use Rattle.bytemap.proofs.Walk.{beyond_none, beyond_next}
use Rattle.cloud.specs.Meaning.{CloudMeaning}
use Rattle.cloud.specs.Outcomes.{Done, Length, over, put_answer, put_after, when_put, get_answer, get_part, drop_answer, drop_after, when_dropped, next_answer, next_place, GetOutcome, NextOutcome}
use Rattle.cloud.specs.Laws.{OtherCall, put, get, drop as dropped, next, OtherCalls, none, more, Walk, end, step, WhatIsPutIsGotBack, OtherNamesKeepTheirValues, NextWalksAllNames}

-- ---- one call

module _ (m : CloudMeaning) (n : List ℕ) where
  pub put_stays_sound : (v : List ℕ) → (put_after m n v).sound ≡ m.sound
  unfolding put_after
  put_stays_sound v = kept (put_answer m n v) where
    kept : (r : Done) → (when_put r m n v).sound ≡ m.sound
    kept (Ok t) = refl
    kept (Err e) = refl

  pub put_finds_others : (v k : List ℕ) → (n ≡ k → ⊥) → find (put_after m n v).held k ≡ find m.held k
  unfolding put_after
  put_finds_others v k other = kept (put_answer m n v) where
    kept : (r : Done) → find (when_put r m n v).held k ≡ find m.held k
    kept (Ok t) = find_insert m.held n v k ∙ rw (apart n k other)
    kept (Err e) = refl

  pub put_finds : (v : List ℕ) → put_answer m n v ≡ Ok tt → find (put_after m n v).held n ≡ Some v
  unfolding put_after
  put_finds v e = rw e (find_insert m.held n v n ∙ rw (same_self n))

  pub drop_stays_sound : (drop_after m n).sound ≡ m.sound
  unfolding drop_after
  drop_stays_sound = kept (drop_answer m n) where
    kept : (r : Done) → (when_dropped r m n).sound ≡ m.sound
    kept (Ok t) = refl
    kept (Err e) = refl

  pub drop_finds_others : (k : List ℕ) → (n ≡ k → ⊥) → find (drop_after m n).held k ≡ find m.held k
  unfolding drop_after
  drop_finds_others k other = kept (drop_answer m n) where
    kept : (r : Done) → find (when_dropped r m n).held k ≡ find m.held k
    kept (Ok t) = find_remove m.held n k ∙ rw (apart n k other)
    kept (Err e) = refl

-- ---- runs of calls

one_other : {name : List ℕ} {m m' : CloudMeaning} → m.sound ≡ true → OtherCall name m m' → (m'.sound ≡ true) × (find m'.held name ≡ find m.held name)
one_other {name} {m} {m'} s (put {n} {v} other o) = rw (o.after s) (put_stays_sound m n v ∙ s, put_finds_others m n v name other)
one_other s (get o) = rw (o.after s) (s, refl)
one_other {name} {m} {m'} s (dropped {n} other o) = rw (o.after s) (drop_stays_sound m n ∙ s, drop_finds_others m n name other)
one_other s (next o) = rw (o.after s) (s, refl)

all_others : {name : List ℕ} {m m' : CloudMeaning} → m.sound ≡ true → OtherCalls name m m' → (m'.sound ≡ true) × (find m'.held name ≡ find m.held name)
all_others s none = (s, refl)
all_others s (more c o) =
    let a = all_others s c in
    let b = one_other a.0 o in
    (b.0, b.1 ∙ a.1)

pub other_names_keep_their_values : OtherNamesKeepTheirValues
other_names_keep_their_values m m' name s c = (all_others s c).1

-- a get of what is found
got : (m m' : CloudMeaning) (name value part : List ℕ) (r : Length) (part' : List ℕ) → m.sound ≡ true → find m.held name ≡ Some value → length value ≤ length part → GetOutcome m name part r part' m'
    → (r ≡ Ok (length value)) × (part' ≡ over value part)
unfolding get_answer get_part
got m m' name value part r part' s e fits o =
    let t = le-leb (length value) (length part) fits in
    (o.answer s ∙ rw (e, t), o.written s ∙ rw (e, t))

pub what_is_put_is_got_back : WhatIsPutIsGotBack
what_is_put_is_got_back m m₁ m₂ m₃ name value part r part' s p c g fits =
    let s₁ : m₁.sound ≡ true = rw (p.after s) (put_stays_sound m name value ∙ s) in
    let f : find m₁.held name ≡ Some value = rw (p.after s) (put_finds m name value (sym (p.answer s))) in
    let a = all_others s₁ c in
    got m₂ m₃ name value part r part' a.0 (a.1 ∙ f) fits g

-- ---- the walk by next

-- what next answers and writes, of a sound cloud
pub next_gives : (m m' : CloudMeaning) (above place place' : List ℕ) (n : ℕ) → m.sound ≡ true → NextOutcome m above place (Ok (Some n)) place' m' → next_key m.held above ≡ Some (take n place')
unfolding next_answer next_place
next_gives m m' above place place' n s o = given (next_key m.held above) refl where
  given : (k : Option (List ℕ)) → next_key m.held above ≡ k → k ≡ Some (take n place')
  given None e = absurd (let c : Ok (Some n) ≡ Ok None = o.answer s ∙ rw e in grind arith)
  given (Some name) e =
      let a : Ok (Some n) ≡ Ok (Some (length name)) = o.answer s ∙ rw e in
      let l : n ≡ length name = cc in
      let w : place' ≡ over name place = o.written s ∙ rw e in
      ap Some (sym (ap (take n) w ∙ take_at name (drop (length name) place) n (sym l)))

pub next_ends : (m m' : CloudMeaning) (above place place' : List ℕ) → m.sound ≡ true → NextOutcome m above place (Ok None) place' m' → next_key m.held above ≡ None
unfolding next_answer
next_ends m m' above place place' s o = given (next_key m.held above) refl where
  given : (k : Option (List ℕ)) → next_key m.held above ≡ k → k ≡ None
  given None e = refl
  given (Some name) e = absurd (let c : Ok None ≡ Ok (Some (length name)) = o.answer s ∙ rw e in grind arith)

walk_from : {m : CloudMeaning} {above : List ℕ} {walked : List (List ℕ)} → m.sound ≡ true → Ascending m.held → Walk m above walked → walked ≡ keys (beyond above m.held)
walk_from {m} {above} s asc (end {m' = m'} {place = place} {place' = place'} o) = sym (ap keys (beyond_none above m.held (next_ends m m' above place place' s o)))
walk_from {m} {above} s asc (step {m' = m'} {place = place} {place' = place'} {n = n} {names = names} o w) =
    let same = o.after s in
    let rest : names ≡ keys (beyond (take n place') m.held) = subst (λ x. x.sound ≡ true → Ascending x.held → names ≡ keys (beyond (take n place') x.held)) same (λ s' asc'. walk_from s' asc' w) s asc in
    ap (λ x. take n place' ∷ x) rest ∙ sym (beyond_next above (take n place') m.held asc (next_gives m m' above place place' n s o))

pub next_walks_all_names : NextWalksAllNames
next_walks_all_names m walked s limits w = walk_from s limits.ascending w
