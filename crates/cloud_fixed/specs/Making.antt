-- What a fixed cloud means, and when one is made.
use Rattle.std.specs.Prelude.{◌≡◌, ℕ, Bool, true, false, ◌&&◌, [], Ok, Err, vec_items, vec_capacity, Result, Vec, nat_le}
use Rattle.std.specs.declared.alloc.Global.{Global}
use Rattle.refusal.specs.declared.Refusal.TheVariants.{UnsupportedStorage}
use Rattle.refusal.specs.declared.Rejected.{Rejected}
use Rattle.cloud.specs.Meaning.{CloudMeaning}
use Rattle.cloud_fixed.specs.declared.place.Place.{Place}
use Rattle.cloud_fixed.specs.declared.fixed.FixedCloud.{FixedCloud}
use Rattle.cloud_fixed.specs.Places.{meaning_of}

abbrev pub fixed_meaning : FixedCloud → CloudMeaning
fixed_meaning c = meaning_of (vec_items c.places) c.limit

-- 1 to 32 places, and room for all of them
abbrev pub supported : ℕ → ℕ → Bool
supported places room = nat_le 1 places && nat_le places 32 && nat_le places room

-- A cloud is made just where it is supported: it is sound and empty, and all its places are free.
-- Otherwise the memory comes back as it was.
abbrev pub Made : Vec Place Global → ℕ → Result FixedCloud (Rejected (Vec Place Global)) → Type 0
Made memory places (Ok cloud) =
    (supported places (vec_capacity memory) ≡ true) × (fixed_meaning cloud ≡ record { sound = true; held = []; free = places })
Made memory places (Err rejected) =
    (supported places (vec_capacity memory) ≡ false) × (rejected.refusal ≡ UnsupportedStorage) × (rejected.given ≡ memory)
