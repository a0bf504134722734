-- What the calls at a row leave of what its sound clouds hold.
use Rattle.std.proofs.Common.{◌≡◌, ℕ, ◌<◌, ◌≤◌, true, List, length, get_or, Some, None, Ok, Err, Result, sym, refl, ap, ◌∙◌, ⊎_elim, length-set, get_or-set_other}
use native.Mathlib.Decide.{ℕ_discrete}
use lib.Seq.{set_out}
use Rattle.std.proofs.lemmas.Bool.{cases_lt}
use Rattle.refusal.specs.declared.Cause.{Cause}
use Rattle.byte_strings.specs.Order.{below}
use Rattle.bytemap.specs.Map.{find}
use Rattle.naming.specs.Stamps.{StampValue, stamp_below}
use Rattle.naming.specs.Names.{name_of, IsNameOf}
use Rattle.naming.proofs.Names.{names_keep_the_order_of_stamps}
use Rattle.cloud.specs.Meaning.{CloudMeaning}
use Rattle.cloud.specs.Outcomes.{Done, Length, NextLength, PutOutcome, GetOutcome, DropOutcome, NextOutcome}
use Rattle.cloud.proofs.Sound.{put_stays_sound, put_finds_others, put_finds, drop_stays_sound, drop_finds_others}
use Rattle.row.specs.Rows.{no_cloud, Called}
use Rattle.protocol.specs.Slots.{SweepingValue}
use Rattle.protocol.specs.Sweeping.{Gives, Going, begin, pass, drop as dropped_one, Swept, no_more, reached, next_refused, drop_refused, not_above, too_many, sweep_bound}
use Rattle.protocol.specs.Steps.{next_at, drop_at}

-- a sound cloud stays sound and keeps what it holds under the names P
pub record KeepsOne (P : List ℕ → Type 0) (m m' : CloudMeaning) : Type 0 where
  pub stays : m.sound ≡ true → m'.sound ≡ true
  pub keeps : m.sound ≡ true → (n : List ℕ) → P n → find m'.held n ≡ find m.held n

-- so does each cloud of a row
pub record Keeps (P : List ℕ → Type 0) (ms ms' : List CloudMeaning) : Type 0 where
  pub same_length : length ms' ≡ length ms
  pub each : (i : ℕ) → KeepsOne P (get_or ms i no_cloud) (get_or ms' i no_cloud)

abbrev pub AnyName : List ℕ → Type 0
AnyName n = Unit {0}

abbrev pub OtherThan : List ℕ → List ℕ → Type 0
OtherThan name n = name ≡ n → ⊥

-- no name of this key with a stamp below this one
abbrev pub NotBelow : ℕ → List ℕ → StampValue → List ℕ → Type 0
NotBelow c k bound n = (t : StampValue) → n ≡ name_of c k t → stamp_below t bound ≡ true → ⊥

-- ---- one cloud

same_one : (P : List ℕ → Type 0) (m m' : CloudMeaning) → (m.sound ≡ true → m' ≡ m) → KeepsOne P m m'
same_one P m m' e = record { stays = λ t. ap (λ (x : CloudMeaning). x.sound) (e t) ∙ t; keeps = λ t n p. ap (λ (x : CloudMeaning). find x.held n) (e t) }

pub put_keeps : (name v : List ℕ) (r : Done) (m m' : CloudMeaning) → PutOutcome m name v r m' → KeepsOne (OtherThan name) m m'
put_keeps name v r m m' o = record {
  stays = λ t. ap (λ (x : CloudMeaning). x.sound) (o.after t) ∙ put_stays_sound m name v ∙ t;
  keeps = λ t n p. ap (λ (x : CloudMeaning). find x.held n) (o.after t) ∙ put_finds_others m name v n p;
}

pub put_holds : (name v : List ℕ) (m m' : CloudMeaning) → PutOutcome m name v (Ok tt) m' → m.sound ≡ true → find m'.held name ≡ Some v
put_holds name v m m' o t = ap (λ (x : CloudMeaning). find x.held name) (o.after t) ∙ put_finds m name v (sym (o.answer t))

pub get_keeps : (P : List ℕ → Type 0) (name part : List ℕ) (r : Length) (part' : List ℕ) (m m' : CloudMeaning) → GetOutcome m name part r part' m' → KeepsOne P m m'
get_keeps P name part r part' m m' o = same_one P m m' o.after

next_keeps : (P : List ℕ → Type 0) (above place : List ℕ) (r : NextLength) (place' : List ℕ) (m m' : CloudMeaning) → NextOutcome m above place r place' m' → KeepsOne P m m'
next_keeps P above place r place' m m' o = same_one P m m' o.after

drop_keeps : (P : List ℕ → Type 0) (name : List ℕ) (r : Done) (m m' : CloudMeaning) → ((n : List ℕ) → P n → name ≡ n → ⊥) → DropOutcome m name r m' → KeepsOne P m m'
drop_keeps P name r m m' other o = record {
  stays = λ t. ap (λ (x : CloudMeaning). x.sound) (o.after t) ∙ drop_stays_sound m name ∙ t;
  keeps = λ t n p. ap (λ (x : CloudMeaning). find x.held n) (o.after t) ∙ drop_finds_others m name n (other n p);
}

-- ---- a row

pub called_keeps : (P : List ℕ → Type 0) (ms : List CloudMeaning) (i : ℕ) (ms' : List CloudMeaning) (R : CloudMeaning → CloudMeaning → Type 0) (U : Type 0)
    → Called ms i ms' R U → ((m m' : CloudMeaning) → R m m' → KeepsOne P m m') → Keeps P ms ms'
called_keeps P ms i ms' R U c one = record { same_length = ap length c.others ∙ length-set ms i (get_or ms' i no_cloud); each = at } where
  x : CloudMeaning
  x = get_or ms' i no_cloud

  here : (j : ℕ) → j ≡ i → KeepsOne P (get_or ms j no_cloud) (get_or ms' j no_cloud)
  here j e = ⊎_elim
      (λ (l : i < length ms). rw e (one (get_or ms i no_cloud) (get_or ms' i no_cloud) (c.here l)))
      (λ (l : length ms ≤ i). let same : ms' ≡ ms = c.others ∙ set_out ms i (get_or ms' i no_cloud) l in
      same_one P (get_or ms j no_cloud) (get_or ms' j no_cloud) (λ _. ap (λ (l : List CloudMeaning). get_or l j no_cloud) same))
      (cases_lt i (length ms))

  at : (j : ℕ) → KeepsOne P (get_or ms j no_cloud) (get_or ms' j no_cloud)
  at j = elim (ℕ_discrete j i) [
    | yes e ↦ here j e
    | no n ↦ same_one P (get_or ms j no_cloud) (get_or ms' j no_cloud)
        (λ _. ap (λ (l : List CloudMeaning). get_or l j no_cloud) c.others ∙ get_or-set_other ms i j (get_or ms' i no_cloud) no_cloud n)
  ]

pub keeps_self : (P : List ℕ → Type 0) (ms : List CloudMeaning) → Keeps P ms ms
keeps_self P ms = record { same_length = refl; each = λ i. record { stays = λ t. t; keeps = λ t n p. refl } }

pub keeps_then : {P : List ℕ → Type 0} {ls ms ns : List CloudMeaning} → Keeps P ls ms → Keeps P ms ns → Keeps P ls ns
keeps_then a b = record {
  same_length = b.same_length ∙ a.same_length;
  each = λ i. record {
    stays = λ t. (b.each i).stays ((a.each i).stays t);
    keeps = λ t n p. (b.each i).keeps ((a.each i).stays t) n p ∙ (a.each i).keeps t n p;
  };
}

-- ---- a sweep: it drops only names of its key with stamps below the one it remembers

module _ (x : SweepingValue) (i : ℕ) where
  abbrev Kept : List ℕ → Type 0
  Kept = NotBelow x.container x.key x.stamp

  asked_keeps : (above place : List ℕ) (r : NextLength) (place' : List ℕ) (ms ms' : List CloudMeaning) → next_at i ms above place r place' ms' → Keeps Kept ms ms'
  asked_keeps above place r place' ms ms' c =
      called_keeps Kept ms i ms' _ _ c (λ m m' o. next_keeps Kept above place r place' m m' o)

  name_is_below : (name : List ℕ) → below name (sweep_bound x) ≡ true → IsNameOf name x.container x.key → (n : List ℕ) → Kept n → name ≡ n → ⊥
  name_is_below name b is n kept e =
      let t : StampValue = is.0 in
      let same : n ≡ name_of x.container x.key t = sym e ∙ is.2 in
      let low : below (name_of x.container x.key t) (sweep_bound x) ≡ true = ap (λ (y : List ℕ). below y (sweep_bound x)) (sym is.2) ∙ b in
      kept t same (sym (names_keep_the_order_of_stamps x.container x.key t x.stamp) ∙ low)

  dropped_keeps : (name : List ℕ) (r : Done) (ms ms' : List CloudMeaning) → below name (sweep_bound x) ≡ true → IsNameOf name x.container x.key → drop_at i ms name r ms' → Keeps Kept ms ms'
  dropped_keeps name r ms ms' b is c = called_keeps Kept ms i ms' _ _ c (λ m m' o. drop_keeps Kept name r m m' (name_is_below name b is) o)

  gives_keeps : {ms ms' : List CloudMeaning} {last n : List ℕ} {seen : ℕ} → Gives (next_at i) (drop_at i) x ms last seen n ms' → Keeps Kept ms ms'
  gives_keeps {ms} {ms'} {last} g = asked_keeps last g.place (Ok (Some g.len)) g.place' ms ms' g.asked

  going_keeps : {a b : List CloudMeaning} {last : List ℕ} {seen dropped : ℕ} → Going (next_at i) (drop_at i) x a b last seen dropped → Keeps Kept a b
  going_keeps {a} begin = keeps_self Kept a
  going_keeps (pass g gives low other) = keeps_then (going_keeps g) (gives_keeps gives)
  going_keeps (dropped_one {c = c} {d = d} {n = n} g gives low is drops) = keeps_then (keeps_then (going_keeps g) (gives_keeps gives)) (dropped_keeps n (Ok tt) c d low is drops)

  pub swept_keeps : {a b : List CloudMeaning} {r : Result ℕ Cause} → Swept (next_at i) (drop_at i) x a b r → Keeps Kept a b
  swept_keeps (no_more {b = b} {c = c} {last = last} {place = place} {place' = place'} g asked) = keeps_then (going_keeps g) (asked_keeps last place (Ok None) place' b c asked)
  swept_keeps (reached g gives high) = keeps_then (going_keeps g) (gives_keeps gives)
  swept_keeps (next_refused {b = b} {c = c} {last = last} {place = place} {place' = place'} {e = e} g asked) = keeps_then (going_keeps g) (asked_keeps last place (Err e) place' b c asked)
  swept_keeps (drop_refused {c = c} {d = d} {n = n} {e = e} g gives low is drops) = keeps_then (keeps_then (going_keeps g) (gives_keeps gives)) (dropped_keeps n (Err e) c d low is drops)
  swept_keeps (not_above {b = b} {c = c} {last = last} {place = place} {place' = place'} {len = len} g asked falls) = keeps_then (going_keeps g) (asked_keeps last place (Ok (Some len)) place' b c asked)
  swept_keeps (too_many {b = b} {c = c} {last = last} {place = place} {place' = place'} {len = len} g asked many) = keeps_then (going_keeps g) (asked_keeps last place (Ok (Some len)) place' b c asked)
