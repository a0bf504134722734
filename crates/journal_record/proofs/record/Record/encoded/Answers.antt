use Rattle.std.proofs.Common.{length, ap, append_assoc, arith, rules}
use Rattle.journal_record.specs.Records.{record_value}
use Rattle.journal_record.specs.Layout.{encode, container_field}
use Rattle.journal_record.proofs.Valid.{record_is_valid}
use Rattle.journal_record.proofs.Lengths.{length_appended, head_most, length_container}
use Rattle.journal_record.proofs.record.Record.encoded.Goals as goal

pub append_container-requires : goal.append_container-requires
append_container-requires c =
    omega (arith, ap length c.head-buffer.ensures, head_most (record_value c.args.self.now) (record_is_valid c.args.self.now))

pub append_live-requires : goal.append_live-requires
append_live-requires c =
    let h = head_most (record_value c.args.self.now) (record_is_valid c.args.self.now) in
    let n = length_appended c.head-buffer.result (container_field c.args.self.now.at.container) _ c.append_container.ensures in
    omega (arith, ap length c.head-buffer.ensures, length_container c.args.self.now.at.container)

pub returns : goal.returns
unfolding encode
returns c = search (rules, append_assoc)
