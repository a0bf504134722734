use Rattle.std.proofs.Common.{◌≡◌, Some, sym, arith}
use Rattle.journal_record.specs.Parse.{fields_of, parse}
use Rattle.journal_record.proofs.Reading.{parse_short, no_fields, past_limits, within_limits}
use Rattle.journal_record.proofs.Lengths.{rest_shorter}
use Rattle.journal_record.proofs.OnlyRecords.{only_records_are_read}
use Rattle.journal_record.proofs.record.Record.read.Goals as goal

pub returns-in_err-map : goal.returns-in_err-map
returns-in_err-map c =
    record { value = rw (c.from_residual.ensures, parse_short c.args.bytes.now c.in_err-map.ensures.cases); only = only_records_are_read }

pub returns-in_err-fields : goal.returns-in_err-fields
returns-in_err-fields c =
    let e = no_fields c.args.bytes.now c.in_ok-map.field-0-0.now c.in_ok-map.fields.now c.in_ok-map.ensures.cases c.in_err-fields.ensures in
    record { value = rw c.from_residual-in_err-fields.ensures (sym e); only = only_records_are_read }

pub returns-in_err-record : goal.returns-in_err-record
returns-in_err-record c =
    let e = past_limits c.args.bytes.now c.in_ok-map.field-0-0.now c.in_ok-map.fields.now c.in_ok-map.ensures.cases _ _ c.in_ok-fields.ensures c.in_err-record.ensures in
    record { value = rw c.from_residual-in_err-record.ensures (sym e); only = only_records_are_read }

-- what stands at the front of the bytes
parsed : (c : goal.In_ok-record) → parse c.args.bytes.now ≡ Some (fields_of c.in_ok-fields.fields, c.in_ok-fields.rest.now)
parsed c =
    within_limits c.args.bytes.now c.in_ok-map.field-0-0.now c.in_ok-map.fields.now c.in_ok-map.ensures.cases _ _ c.in_ok-fields.ensures c.in_ok-record.ensures.0

pub overflow_sub-result : goal.overflow_sub-result
overflow_sub-result c = let l = rest_shorter _ _ _ (parsed c) in omega arith

pub returns : goal.returns
returns c =
    record { value = rw (parsed c, c.in_ok-record.ensures.1); only = only_records_are_read }
