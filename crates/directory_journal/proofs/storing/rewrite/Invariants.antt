-- The entries so far are written, and each takes no more than the longest record does.
use Rattle.std.proofs.Common.{◌≡◌, ◌*◌, ◌≤◌, length, take}
use Rattle.journal_record.specs.Layout.{longest_record}
use Rattle.directory_journal.specs.Records.{all_encoded, records_of}
use Rattle.directory_journal.proofs.storing.rewrite.Given as goal

abbrev pub invariant-loop-item : goal.invariant-loop-item
invariant-loop-item l =
    (take l.end l.bytes ≡ all_encoded (records_of (take l.item-index l.entries))) × (l.end ≤ l.item-index * longest_record)
    × (length l.bytes ≡ length l.initial.bytes) × (l.item-index ≤ length l.entries)
