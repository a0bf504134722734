-- A Locker that was opened over an empty directory keeps its promises.
use Rattle.std.proofs.Common.{Ok, refl}
use Rattle.protocol.specs.declared.answers.CommitOutcome.TheVariants.{Committed}
use Rattle.protocol.specs.Events.{committed}
use Rattle.history.specs.Promises.{AnOpenedLockerKeepsItsPromises}
use Rattle.history.proofs.Always.{at_opening, goes_on}
use Rattle.history.proofs.Stepped.{effect_of}
use Rattle.history.proofs.Fetches.{answers_the_latest_save, names_the_saved_keys}
use Rattle.history.proofs.Served.{zero_never_runs, committed_serves}

pub an_opened_Locker_keeps_its_promises : AnOpenedLockerKeepsItsPromises
an_opened_Locker_keeps_its_promises S s opened = record {
  fetches = λ h t run. answers_the_latest_save S s.clouds h t (goes_on (at_opening opened) run);
  saves = λ few h t run p u step.
      committed_serves S s.clouds h t (goes_on (at_opening opened) run) (zero_never_runs refl run) opened.counted few p u (effect_of S t (committed p (Ok Committed)) u step);
  listings = λ h t run. names_the_saved_keys S s.clouds h t (goes_on (at_opening opened) run);
}
