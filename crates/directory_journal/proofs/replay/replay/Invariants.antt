-- So far the records up to `at` are replayed.
use Rattle.std.proofs.Common.{◌≡◌, ◌-◌, ◌≤◌, length, drop}
use Rattle.directory_table.specs.Making.{table_meaning}
use Rattle.directory_journal.specs.Capacity.{capacity}
use Rattle.directory_journal.specs.Replay.{replay_from}
use Rattle.directory_journal.proofs.replay.replay.Given as goal

abbrev pub invariant-loop-index : goal.invariant-loop-index
invariant-loop-index l =
    (l.at ≤ length l.bytes) × (capacity (table_meaning l.index) ≡ capacity (table_meaning l.initial.index))
    × (replay_from (table_meaning l.initial.index) 0 0 l.bytes ≡ replay_from (table_meaning l.index) l.at 0 (drop l.at l.bytes))

abbrev pub decreases-loop-index : goal.decreases-loop-index
decreases-loop-index l = length l.bytes - l.at
