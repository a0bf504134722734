-- A call with its outcome: what the caller gave, and what came back.
use Rattle.std.specs.Prelude.{ℕ, List, Result}
use Rattle.refusal.specs.declared.Refusal.{Refusal}
use Rattle.naming.specs.Stamps.{StampValue}
use Rattle.protocol.specs.declared.answers.CommitOutcome.{CommitOutcome}
use Rattle.protocol.specs.declared.answers.Found.{Found}
use Rattle.protocol.specs.declared.answers.Listed.{Listed}

-- A buffer is told before the call and after it.
pub data Event : Type 0 where
  began_save : (party container : ℕ) (key value : List ℕ) (r : Result StampValue Refusal) → Event
  stored : (party cloud : ℕ) (value : List ℕ) (r : Result ℕ Refusal) → Event
  committed : (party : ℕ) (r : Result CommitOutcome Refusal) → Event
  deleted : (party container : ℕ) (key : List ℕ) (r : Result StampValue Refusal) → Event
  began_fetch : (party container : ℕ) (key : List ℕ) (r : Result Found Refusal) → Event
  tried : (party cloud : ℕ) (buffer buffer' : List ℕ) (r : Result ℕ Refusal) → Event
  looked_again : (party : ℕ) (r : Result Found Refusal) → Event
  began_sweep : (party container : ℕ) (key : List ℕ) (r : Result StampValue Refusal) → Event
  swept : (party cloud : ℕ) (r : Result ℕ Refusal) → Event
  left : (party : ℕ) (r : Result (Unit {0}) Refusal) → Event
  listed : (container : ℕ) (buffer buffer' : List ℕ) (r : Result Listed Refusal) → Event
