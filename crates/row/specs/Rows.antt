-- Rows of clouds, told by number from 0, and what a call at one of them does to the row.
use Rattle.std.specs.Prelude.{◌≡◌, ℕ, ◌-◌, ◌<◌, ◌≤◌, Bool, true, false, cond, List, [], length, Some, None, Ok, Err, Option, Result, ◌==◌, nat_lt, slice_index_or, slice_set}
use Rattle.refusal.specs.declared.Cause.{Cause}
use Rattle.refusal.specs.declared.CloudFault.{CloudFault}
use Rattle.cloud.specs.Meaning.{CloudMeaning}

-- what stands past the end of a row, where a list is read by number
abbrev pub no_cloud : CloudMeaning
no_cloud = record { sound = false; held = []; free = 0 }

-- how far a number lies past the last cloud; none where it is a cloud's
abbrev pub number_past : List CloudMeaning → ℕ → Option ℕ
number_past ms i = cond (nat_lt i (length ms)) None (Some (i - length ms))

-- A call at the cloud i of the row ms leaves the row ms': the cloud did R, the others stay.
-- A number that no cloud has is answered by U, and the row stays.
pub record Called (ms : List CloudMeaning) (i : ℕ) (ms' : List CloudMeaning) (R : CloudMeaning → CloudMeaning → Type 0) (U : Type 0) : Type 0 where
  pub here : i < length ms → R (slice_index_or ms i no_cloud) (slice_index_or ms' i no_cloud)
  pub others : ms' ≡ slice_set ms i (slice_index_or ms' i no_cloud)
  pub unknown : length ms ≤ i → U

-- one of two facts, by a test
abbrev pub If : Bool → Type 0 → Type 0 → Type 0
If true P Q = P
If false P Q = Q

-- A call by number at a row of one cloud: the cloud at 0 did P; another number is answered by U, and the row s stays.
abbrev pub AtOnly : {S : Type 0} → S → S → ℕ → Type 0 → Type 0 → Type 0
AtOnly s t i P U = If (i == 0) P (U × (t ≡ s))

-- A call by number at two rows joined, of which the left one has so many clouds: the side that has the number did P or Q,
-- by its own numbers, and the other side stays.
abbrev pub AtSide : {L M : Type 0} → ℕ → L → L → M → M → ℕ → (ℕ → Type 0) → (ℕ → Type 0) → Type 0
AtSide count l l' r r' i P Q = If (nat_lt i count) (P i × (r' ≡ r)) (Q (i - count) × (l' ≡ l))

-- a cloud's answer, with its number at a refusal
abbrev pub numbered : {T : Type 0} → ℕ → Result T Cause → Result T CloudFault
numbered i (Ok t) = Ok t
numbered i (Err e) = Err (record { cloud = i; cause = e })
