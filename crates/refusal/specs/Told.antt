-- The texts by which causes, faults and refusals are told.
use Rattle.std.specs.Prelude.{ℕ, List, [], ◌++◌, codes, decimal}
use Rattle.refusal.specs.declared.Cause.{Cause}
use Rattle.refusal.specs.declared.CloudFault.{CloudFault}
use Rattle.refusal.specs.declared.Refusal.{Refusal}
use Rattle.refusal.specs.declared.Refusal.TheVariants.{CorruptJournal, CloudRefused}
use Rattle.refusal.specs.Numbers.{cause_number, refusal_number}

-- as "cause 4"
abbrev pub cause_text : Cause → List ℕ
cause_text cause = codes "cause " ++ decimal (cause_number cause)

-- as "cloud 2, cause 4"
abbrev pub fault_text : CloudFault → List ℕ
fault_text fault = codes "cloud " ++ decimal fault.cloud ++ codes ", " ++ cause_text fault.cause

-- what a refusal carries, as its text goes on after the number
abbrev pub carried_text : Refusal → List ℕ
carried_text (CorruptJournal offset) = codes " at " ++ decimal offset
carried_text (CloudRefused fault) = codes ", " ++ fault_text fault
carried_text _ = []

-- as "refused with 1", "refused with 3 at 0" or "refused with 18, cloud 2, cause 4"
abbrev pub refusal_text : Refusal → List ℕ
refusal_text refusal = codes "refused with " ++ decimal (refusal_number refusal) ++ carried_text refusal
