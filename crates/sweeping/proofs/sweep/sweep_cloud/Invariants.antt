use Rattle.std.proofs.Common.{◌≤◌}
use Rattle.protocol.specs.Sweeping.{Going}
use Rattle.sweeping.specs.Answers.{sweep_of}
use Rattle.sweeping.proofs.sweep.sweep_cloud.Given as goal

abbrev pub invariant-loop : goal.invariant-loop
invariant-loop g l =
    record {
      few : l.dropped ≤ l.counter;
      going : Going (λ a. g.R.Row.nexts a l.number) (λ a. g.R.Row.drops a l.number) (sweep_of l.at l.stamp) l.initial.row l.row l.last l.counter l.dropped;
    }
