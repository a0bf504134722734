use Rattle.std.proofs.Common.{◌*◌, ◌≤◌, length, take, refl, ap, ◌∙◌, arith}
use Rattle.journal_record.specs.Layout.{longest_record}
use Rattle.journal_record.specs.Records.{record_value}
use Rattle.directory_journal.proofs.Rewrites.{none_yet, entry_appended}
use Rattle.directory_journal.proofs.storing.rewrite.Goals as goal

pub loop-item-init : goal.loop-item-init
loop-item-init c = (none_yet, omega arith, refl, omega arith)

pub loop-item-preserved : goal.loop-item-preserved
loop-item-preserved c =
    let inv = c.loop-item.invariant in
    let room : length c.args.entries.now * longest_record ≤ length c.loop-item.bytes = omega (arith, inv.2, c.requires) in
    let p = entry_appended c.args.entries.now c.loop-item.item-index c.item-item.result c.item-item.is c.loop-item-test.true (record_value c.to_record.result) c.to_record.ensures
    c.loop-item.bytes c.loop-item.end inv.0 inv.1 room c.append.result c.append.new.bytes c.append.ensures in
    let e = c.unwrap_or-end.ensures in
    (ap (λ n. take n c.append.new.bytes) e ∙ p.0, omega (arith, e, p.1), p.2 ∙ inv.2, omega (arith, c.loop-item-test.true))
