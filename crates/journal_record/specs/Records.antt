-- What a record stands for.
use Rattle.std.specs.Prelude.{◌≡◌, ℕ, ◌≤◌, true, List}
use Rattle.naming.specs.Text.{valid_key}
use Rattle.entry.specs.Entries.{EntryValue, ValidEntry, entry_value}
use Rattle.journal_record.specs.declared.record.Record.{Record}

-- A write to a key of a container.
pub record RecordValue : Type 0 where
  pub container : ℕ
  pub key : List ℕ
  pub entry : EntryValue

abbrev pub record_value : Record → RecordValue
record_value r = record { container = r.at.container; key = r.at.key.bytes; entry = entry_value r.entry }

-- Container, key and entry keep their limits.
pub record ValidRecord (r : RecordValue) : Type 0 where
  pub container_fits : r.container ≤ 255
  pub key_valid : valid_key r.key ≡ true
  pub entry_valid : ValidEntry r.entry
