-- When a log cloud is made.
use Rattle.std.specs.Prelude.{◌≡◌, ℕ, ◌+◌, ◌*◌, Bool, true, false, ◌&&◌, [], Ok, Err, vec_len, vec_capacity, Result, nat_le}
use Rattle.refusal.specs.declared.Refusal.TheVariants.{UnsupportedStorage}
use Rattle.refusal.specs.declared.Rejected.{Rejected}
use Rattle.log_record.specs.Records.{longest_record}
use Rattle.cloud_log.specs.declared.memory.LogMemory.{LogMemory}
use Rattle.cloud_log.specs.declared.log_cloud.LogCloud.{LogCloud}
use Rattle.cloud_log.specs.Meaning.{log_meaning}

-- bytes for one longest record more than there are places, and an entry of the index for each place
abbrev pub roomy : LogMemory → ℕ → Bool
roomy memory places = nat_le ((places + 1) * longest_record) (vec_len memory.bytes) && nat_le places (vec_capacity memory.index)

-- 1 to 32 places, and room for all of them
abbrev pub supported : LogMemory → ℕ → Bool
supported memory places = nat_le 1 places && nat_le places 32 && roomy memory places

-- A cloud is made just where it is supported: it is sound and empty, all its places are free, and its log has the
-- bytes that were handed in. Otherwise the memory comes back as it was.
abbrev pub Made : LogMemory → ℕ → Result LogCloud (Rejected LogMemory) → Type 0
Made memory places (Ok cloud) =
    (supported memory places ≡ true) × (log_meaning cloud ≡ record { sound = true; held = []; free = places }) × (cloud.bytes ≡ memory.bytes)
Made memory places (Err rejected) =
    (supported memory places ≡ false) × (rejected.refusal ≡ UnsupportedStorage) × (rejected.given ≡ memory)
