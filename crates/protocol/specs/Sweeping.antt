-- A sweep as a chain of exchanges with one cloud.
use Rattle.std.specs.Prelude.{◌≡◌, ℕ, suc, ◌<◌, ◌≤◌, true, false, List, take, Some, None, Ok, Err, Result}
use Rattle.refusal.specs.declared.Cause.{Cause}
use Rattle.refusal.specs.declared.Cause.TheVariants.{BadListing}
use Rattle.cloud.specs.Outcomes.{Done, NextLength}
use Rattle.byte_strings.specs.Order.{below}
use Rattle.naming.specs.Stamps.{no_stamp}
use Rattle.naming.specs.Names.{name_of, IsNameOf}
use Rattle.protocol.specs.Slots.{SweepingValue}

-- Next may give at most so many names.
abbrev pub most_names : ℕ
most_names = 64

abbrev pub lowest_name : SweepingValue → List ℕ
lowest_name x = name_of x.container x.key no_stamp

-- names from here on are not swept
abbrev pub sweep_bound : SweepingValue → List ℕ
sweep_bound x = name_of x.container x.key x.stamp

-- The cloud is any X; nexts and drops say what one exchange with it answers and leaves.
module _ {X : Type 0} (nexts : X → List ℕ → List ℕ → NextLength → List ℕ → X → Type 0) (drops : X → List ℕ → Done → X → Type 0) (x : SweepingValue) where
  -- Next gave the name n above the last one, and it is not one too many
  pub record Gives (a : X) (last : List ℕ) (seen : ℕ) (n : List ℕ) (b : X) : Type 0 where
    pub place : List ℕ
    pub place' : List ℕ
    pub len : ℕ
    pub asked : nexts a last place (Ok (Some len)) place' b
    pub name : n ≡ take len place'
    pub ascends : below last n ≡ true
    pub few : seen < most_names

  -- under way from the cloud a: the cloud as it is now, the last name, how many were seen, how many drops acknowledged
  pub data Going (a : X) : X → List ℕ → ℕ → ℕ → Type 0 where
    begin : Going a a (lowest_name x) 0 0
    -- a name of another key is passed over
    pass : {b c : X} {last n : List ℕ} {seen dropped : ℕ} → Going a b last seen dropped → Gives b last seen n c
        → below n (sweep_bound x) ≡ true → (IsNameOf n x.container x.key → ⊥) → Going a c n (suc seen) dropped
    -- a name of exactly this key is dropped
    drop : {b c d : X} {last n : List ℕ} {seen dropped : ℕ} → Going a b last seen dropped → Gives b last seen n c
        → below n (sweep_bound x) ≡ true → IsNameOf n x.container x.key → drops c n (Ok tt) d → Going a d n (suc seen) (suc dropped)

  -- ended: the cloud as it then is, and the acknowledged drops or the cause that ended it
  pub data Swept (a : X) : X → Result ℕ Cause → Type 0 where
    no_more : {b c : X} {last place place' : List ℕ} {seen dropped : ℕ} → Going a b last seen dropped
        → nexts b last place (Ok None) place' c → Swept a c (Ok dropped)
    reached : {b c : X} {last n : List ℕ} {seen dropped : ℕ} → Going a b last seen dropped → Gives b last seen n c
        → below n (sweep_bound x) ≡ false → Swept a c (Ok dropped)
    next_refused : {b c : X} {last place place' : List ℕ} {seen dropped : ℕ} {e : Cause} → Going a b last seen dropped
        → nexts b last place (Err e) place' c → Swept a c (Err e)
    drop_refused : {b c d : X} {last n : List ℕ} {seen dropped : ℕ} {e : Cause} → Going a b last seen dropped → Gives b last seen n c
        → below n (sweep_bound x) ≡ true → IsNameOf n x.container x.key → drops c n (Err e) d → Swept a d (Err e)
    not_above : {b c : X} {last place place' : List ℕ} {seen dropped len : ℕ} → Going a b last seen dropped
        → nexts b last place (Ok (Some len)) place' c → below last (take len place') ≡ false → Swept a c (Err BadListing)
    too_many : {b c : X} {last place place' : List ℕ} {seen dropped len : ℕ} → Going a b last seen dropped
        → nexts b last place (Ok (Some len)) place' c → most_names ≤ seen → Swept a c (Err BadListing)
