-- What a faulty cloud means, and what each fault does at a call.
use Rattle.std.specs.Prelude.{◌≡◌, ℕ, cond, ◌&&◌, List, Ok, Err, Result, ◌==◌, bit_xor, slice_index, slice_set}
use Rattle.refusal.specs.declared.Cause.{Cause}
use Rattle.refusal.specs.declared.Cause.TheVariants.{Silent}
use Rattle.cloud.specs.Meaning.{CloudMeaning}
use Rattle.cloud.specs.Outcomes.{Length}
use Rattle.cloud_faulty.specs.declared.fault.Fault.{Fault}
use Rattle.cloud_faulty.specs.declared.fault.Fault.TheVariants.{Silence, FalseSuccess, FlippedBit}
use Rattle.cloud_faulty.specs.Faults.{all_pass}

-- sound where the cloud below is and no fault is left but passing on; it holds what the cloud below holds
abbrev pub faulty_meaning : CloudMeaning → List Fault → CloudMeaning
faulty_meaning m left = record { sound = m.sound && all_pass left; held = m.held; free = m.free }

-- A call and its answer, by the call's fault: `passed` says that the cloud below was asked and gave this answer, and
-- `unasked` that all is as it was. The value is that of a success that is only claimed.
abbrev pub AnsweredBy : {T : Type 0} → Fault → Type 0 → Type 0 → T → Result T Cause → Type 0
AnsweredBy Silence passed unasked claimed r = unasked × (r ≡ Err Silent)
AnsweredBy FalseSuccess passed unasked claimed r = unasked × (r ≡ Ok claimed)
AnsweredBy _ passed unasked claimed r = passed

-- the lowest bit of the first byte flipped, where the answer says that there is one
abbrev pub flipped : Length → List ℕ → List ℕ
flipped (Ok n) part = cond (n == 0) part (slice_set part 0 (bit_xor (slice_index part 0) 1))
flipped (Err e) part = part

-- a get, whose part can be flipped after the cloud below has written it
abbrev pub GetBy : Fault → (List ℕ → Type 0) → Type 0 → Length → List ℕ → Type 0
GetBy FlippedBit passed unasked r part' = (written : List ℕ) × (passed written × (part' ≡ flipped r written))
GetBy f passed unasked r part' = AnsweredBy f (passed part') unasked 0 r
