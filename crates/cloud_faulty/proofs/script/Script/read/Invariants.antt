-- The codes so far have faults, and those stand in the script.
use Rattle.std.proofs.Common.{◌≡◌}
use Rattle.arrayvec.specs.ArrayVec.{array_vec_len}
use Rattle.cloud_faulty.proofs.Codes.{Read}
use Rattle.cloud_faulty.proofs.script.Script.read.Given as goal

abbrev pub invariant-loop-code : goal.invariant-loop-code
invariant-loop-code l = record { count : array_vec_len l.faults ≡ l.code-index; read : Read l.codes l.code-index l.faults.items }
