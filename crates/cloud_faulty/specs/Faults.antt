-- Faults, their codes, and scripts of them.
use Rattle.std.specs.Prelude.{◌≡◌, ℕ, Bool, true, false, cond, List, [], ◌∷◌, ◌++◌, length, Some, None, Option, Result, IfErr, ◌==◌, nat_le, codes, decimal}
use Rattle.std.specs.List.{list_all}
use Rattle.std.specs.Option.{option_map}
use Rattle.std.specs.Result.{result_ok}
use Rattle.cloud_faulty.specs.declared.fault.Fault.{Fault}
use Rattle.cloud_faulty.specs.declared.fault.UnknownFault.{UnknownFault}
use Rattle.cloud_faulty.specs.declared.fault.Fault.TheVariants.{Pass, Silence, FalseSuccess, FlippedBit}

abbrev pub fault_of : ℕ → Option Fault
fault_of code =
    cond (code == 0) (Some Pass)
    (cond (code == 1) (Some Silence)
    (cond (code == 2) (Some FalseSuccess)
    (cond (code == 3) (Some FlippedBit) None)))

-- the result is the code's fault, or an error with the code where no fault has it
abbrev pub Decodes : ℕ → Result Fault UnknownFault → Type 0
Decodes code r = (result_ok r ≡ fault_of code) × IfErr r (λ e. e.0 ≡ code)

-- as "no fault has the code 4"
abbrev pub unknown_text : UnknownFault → List ℕ
unknown_text e = codes "no fault has the code " ++ decimal e.0

abbrev pub joined : Option Fault → Option (List Fault) → Option (List Fault)
joined None fs = None
joined (Some f) fs = option_map (λ gs. f ∷ gs) fs

-- the faults of codes; none where one of them is no fault's
unfoldable pub faults_of : List ℕ → Option (List Fault)
faults_of [] = Some []
faults_of (c ∷ cs) = joined (fault_of c) (faults_of cs)

-- a script has at most 32 codes
abbrev pub script_of : List ℕ → Option (List Fault)
script_of codes = cond (nat_le (length codes) 32) (faults_of codes) None

-- ---- using a script up

-- after the last fault each call passes
abbrev pub first : List Fault → Fault
first [] = Pass
first (f ∷ fs) = f

abbrev pub rest : List Fault → List Fault
rest [] = []
rest (f ∷ fs) = fs

-- the next fault is used up, and no other
abbrev pub UsedUp : List Fault → List Fault → Type 0
UsedUp left left' = left' ≡ rest left

abbrev pub is_pass : Fault → Bool
is_pass Pass = true
is_pass _ = false

abbrev pub all_pass : List Fault → Bool
all_pass = list_all is_pass
