-- Laws of sound clouds, over runs of calls.
use Rattle.std.specs.Prelude.{◌≡◌, ℕ, ◌≤◌, true, List, [], ◌∷◌, length, take, Some, None, Ok, ◌≢◌}
use Rattle.bytemap.specs.Map.{find, beyond, keys}
use Rattle.cloud.specs.Meaning.{CloudMeaning, WithinLimits}
use Rattle.cloud.specs.Outcomes.{Done, Length, NextLength, over, PutOutcome, GetOutcome, DropOutcome, NextOutcome}

-- a call that neither puts nor drops the name
pub data OtherCall (name : List ℕ) (m m' : CloudMeaning) : Type 0 where
  put : {n v : List ℕ} {r : Done} → (n ≢ name) → PutOutcome m n v r m' → OtherCall name m m'
  get : {n part : List ℕ} {r : Length} {part' : List ℕ} → GetOutcome m n part r part' m' → OtherCall name m m'
  drop : {n : List ℕ} {r : Done} → (n ≢ name) → DropOutcome m n r m' → OtherCall name m m'
  next : {above place : List ℕ} {r : NextLength} {place' : List ℕ} → NextOutcome m above place r place' m' → OtherCall name m m'

-- any number of them
pub data OtherCalls (name : List ℕ) (m : CloudMeaning) : CloudMeaning → Type 0 where
  none : OtherCalls name m m
  more : {m₁ m₂ : CloudMeaning} → OtherCalls name m m₁ → OtherCall name m₁ m₂ → OtherCalls name m m₂

-- Theorem: a value that was put under a name is got back, as long as the name is not put or dropped again.
abbrev pub WhatIsPutIsGotBack : Type 0
WhatIsPutIsGotBack =
    (m m₁ m₂ m₃ : CloudMeaning) (name value part : List ℕ) (r : Length) (part' : List ℕ)
    → m.sound ≡ true → PutOutcome m name value (Ok tt) m₁ → OtherCalls name m₁ m₂ → GetOutcome m₂ name part r part' m₃
    → length value ≤ length part → (r ≡ Ok (length value)) × (part' ≡ over value part)

-- Theorem: whatever calls come, a name that they neither put nor drop keeps its value, or stays absent.
abbrev pub OtherNamesKeepTheirValues : Type 0
OtherNamesKeepTheirValues =
    (m m' : CloudMeaning) (name : List ℕ) → m.sound ≡ true → OtherCalls name m m' → find m'.held name ≡ find m.held name

-- Next asked again and again, each time above the name that it gave, until there is none
pub data Walk : CloudMeaning → List ℕ → List (List ℕ) → Type 0 where
  end : {m m' : CloudMeaning} {above place place' : List ℕ} → NextOutcome m above place (Ok None) place' m' → Walk m above []
  step : {m m' : CloudMeaning} {above place place' : List ℕ} {n : ℕ} {names : List (List ℕ)}
      → NextOutcome m above place (Ok (Some n)) place' m' → Walk m' (take n place') names → Walk m above (take n place' ∷ names)

-- Theorem: such a walk from the empty name gives all names above it that are held, ascending and once each.
-- (Only the empty name itself, where it is held, is not above it and does not come.)
abbrev pub NextWalksAllNames : Type 0
NextWalksAllNames =
    (m : CloudMeaning) (walked : List (List ℕ)) → m.sound ≡ true → WithinLimits m → Walk m [] walked → walked ≡ keys (beyond [] m.held)
