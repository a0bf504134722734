-- When a faulty cloud is made.
use Rattle.std.specs.Prelude.{◌≡◌, ℕ, List, Some, None, Ok, Err, Result}
use Rattle.refusal.specs.declared.Refusal.TheVariants.{UnsupportedStorage}
use Rattle.refusal.specs.declared.Rejected.{Rejected}
use Rattle.cloud_faulty.specs.declared.faulty.FaultyCloud.{FaultyCloud}
use Rattle.cloud_faulty.specs.Faults.{script_of}

-- A layer is made just where the codes are a script: over this cloud, with all of the script left.
-- Otherwise the cloud comes back.
abbrev pub Made : {C : Type 0} → List ℕ → C → Result (FaultyCloud C) (Rejected C) → Type 0
Made codes cloud (Ok layer) = (script_of codes ≡ Some (layer.script)) × (layer.below ≡ cloud)
Made codes cloud (Err rejected) =
    (script_of codes ≡ None) × (rejected.refusal ≡ UnsupportedStorage) × (rejected.given ≡ cloud)
