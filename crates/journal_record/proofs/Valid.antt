-- Every record keeps its limits.
use Rattle.entry.proofs.Valid.{entry_is_valid}
use Rattle.journal_record.specs.declared.record.Record.{Record}
use Rattle.journal_record.specs.Records.{ValidRecord, record_value}

pub record_is_valid : (r : Record) → ValidRecord (record_value r)
record_is_valid r = record { container_fits = r.fits; key_valid = r.at.key.valid; entry_valid = entry_is_valid r.entry }
