-- What comes of asking a cloud.
use Rattle.std.specs.Prelude.{◌≡◌, ℕ, List, ◌++◌, length, drop, Ok, Err, Result}
use Rattle.refusal.specs.declared.CloudFault.{CloudFault}
use Rattle.refusal.specs.declared.Refusal.{Refusal}
use Rattle.cloud.specs.Outcomes.{Done, Length}
use Rattle.protocol.specs.Slots.{FetchingValue}
use Rattle.protocol.specs.Steps.{try_answer, part_after}
use Rattle.slots.specs.Values.{digesting}

-- what the cloud said to a put, without its number
abbrev pub put_said : Result (Unit {0}) CloudFault → Done
put_said (Ok t) = Ok tt
put_said (Err f) = Err f.cause

-- `gets` says of an answer and a part that the cloud gave them. The part then holds what the cloud left there.
pub record Judged (gets : Length → List ℕ → Type 0) (digested : List ℕ → List ℕ) (i : ℕ) (x : FetchingValue) (part' : List ℕ) (r : Result ℕ Refusal) : Type 0 where
  pub said : Length
  pub asked : gets said part'
  pub answers : r ≡ try_answer (digesting digested) x i said part'

-- The part then holds the value that was saved, or zeros.
pub record Kept (gets : Length → List ℕ → Type 0) (digested : List ℕ → List ℕ) (i : ℕ) (x : FetchingValue) (part' : List ℕ) (r : Result ℕ Refusal) : Type 0 where
  pub said : Length
  pub part : List ℕ
  pub whole : length part ≡ x.live.size
  pub asked : gets said part
  pub answers : r ≡ try_answer (digesting digested) x i said part
  pub writes : part' ≡ part_after (digesting digested) x said part

-- The same of the front of a buffer; the rest of it stays.
pub record Tried (gets : Length → List ℕ → Type 0) (digested : List ℕ → List ℕ) (i : ℕ) (x : FetchingValue) (buffer buffer' : List ℕ) (r : Result ℕ Refusal) : Type 0 where
  pub said : Length
  pub part : List ℕ
  pub whole : length part ≡ x.live.size
  pub asked : gets said part
  pub answers : r ≡ try_answer (digesting digested) x i said part
  pub writes : buffer' ≡ part_after (digesting digested) x said part ++ drop x.live.size buffer
