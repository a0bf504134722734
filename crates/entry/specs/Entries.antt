-- What an entry stands for.
use Rattle.std.specs.Prelude.{◌≡◌, ℕ, Bool, true, ◌&&◌, List, IfSome, Option, nat_le}
use Rattle.std.specs.Option.{option_map}
use Rattle.naming.specs.Stamps.{StampValue, ValidStamp}
use Rattle.digest.specs.Value.{digest_bytes}
use Rattle.entry.specs.Bytes.{digest_fits}
use Rattle.entry.specs.declared.live.Live.{Live}
use Rattle.entry.specs.declared.entry.Entry.{Entry}

-- A value that is there: the clouds that hold it, one bit each, its size and its digest.
pub record LiveValue : Type 0 where
  pub clouds : ℕ
  pub size : ℕ
  pub digest : List ℕ

-- The last write to a key; one that deleted it has no value.
pub record EntryValue : Type 0 where
  pub stamp : StampValue
  pub live : Option LiveValue

abbrev pub live_value : Live → LiveValue
live_value l = record { clouds = l.clouds; size = l.size; digest = digest_bytes l.digest }

abbrev pub entry_value : Entry → EntryValue
entry_value e = record { stamp = e.stamp; live = option_map live_value e.live }

-- ---- limits

abbrev pub valid_live : LiveValue → Bool
valid_live l = nat_le 1 l.clouds && nat_le l.clouds 127 && nat_le l.size 1024 && digest_fits l.digest

-- neither number of an entry's stamp is 0
abbrev pub stamp_taken : StampValue → Bool
stamp_taken s = nat_le 1 s.sequence && nat_le 1 s.writer

pub record ValidEntry (e : EntryValue) : Type 0 where
  pub stamp_known : ValidStamp e.stamp
  pub stamped : stamp_taken e.stamp ≡ true
  pub live_fits : IfSome e.live (λ l. valid_live l ≡ true)
