-- What was answered, taken apart.
use Rattle.std.specs.Prelude.{◌≡◌, ℕ, List, take, Some, None, Ok, Err, Option, Result}
use Rattle.refusal.specs.declared.Cause.{Cause}
use Rattle.refusal.specs.declared.CloudFault.{CloudFault}
use Rattle.naming.specs.Stamps.{StampValue}
use Rattle.naming.specs.declared.address.Address.{Address}
use Rattle.naming.specs.declared.name.Name.{Name}
use Rattle.cloud.specs.Outcomes.{NextLength}
use Rattle.protocol.specs.Slots.{SweepingValue}

-- the sweep of the names at this address below a stamp
abbrev pub sweep_of : Address → StampValue → SweepingValue
sweep_of at stamp = record { container = at.container; key = at.key.bytes; stamp = stamp }

-- what a cloud said, without its number
abbrev pub said : {T : Type 0} → Result T CloudFault → Result T Cause
said (Ok t) = Ok t
said (Err f) = Err f.cause

module _ {X : Type 0} (nexts : X → List ℕ → List ℕ → NextLength → List ℕ → X → Type 0) (a : X) (last : List ℕ) where
  -- Next was asked above the last name, in some place
  pub record Exchange (r : NextLength) (b : X) : Type 0 where
    pub place : List ℕ
    pub place' : List ℕ
    pub asked : nexts a last place r place' b

  -- and gave these bytes
  pub record Given (n : List ℕ) (b : X) : Type 0 where
    pub len : ℕ
    pub exchange : Exchange (Ok (Some len)) b
    pub name : n ≡ take len exchange.place'

  -- the answer, with the name out of its place
  abbrev pub Asked : Result (Option Name) Cause → X → Type 0
  Asked (Ok None) b = Exchange (Ok None) b
  Asked (Ok (Some n)) b = Given (n) b
  Asked (Err e) b = Exchange (Err e) b
