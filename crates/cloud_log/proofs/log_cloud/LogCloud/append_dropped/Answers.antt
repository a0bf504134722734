use Rattle.std.proofs.Common.{length, vec_items, refl, arith}
use Rattle.std.proofs.lemmas.Bool.{le-leb}
use Rattle.log_record.specs.Records.{dropped}
use Rattle.log_record.proofs.ReadBack.{length_dropped}
use Rattle.cloud_log.proofs.State.{Appending, appending, appended, grown, placed_short, sound_dropped}
use Rattle.cloud_log.proofs.log_cloud.LogCloud.append_dropped.Goals as goal
use Rattle.cloud_log.proofs.log_cloud.LogCloud.append_dropped.Goals.{After-write_dropped}

here : (c : After-write_dropped) → Appending c.args.self.now (dropped c.args.name.now) c.write_dropped.new.bytes c.write_dropped.result
here c =
    let n = c.args.name.now in
    appending c.args.self.now _ (le-leb (length n) 39 (placed_short (vec_items c.args.self.now.index) n c.args.place c.requires.placed)) (omega (arith, c.requires.room, length_dropped n))
    c.deref_mut.ensures.value c.write_dropped.ensures

pub unwrap-after-requires : goal.unwrap-after-requires
unwrap-after-requires c = appended (here (goal.at.unwrap-after-requires c).After-write_dropped)

pub invariant_of-self-clause-sound : goal.invariant_of-self-clause-sound
invariant_of-self-clause-sound c = sound_dropped (here (goal.at.invariant_of-self-clause-sound c).After-write_dropped) c.unwrap-after.ensures c.args.place c.requires.placed _ c.remove.ensures.items

pub returns : goal.returns
returns c = grown (here (goal.at.returns c).After-write_dropped) c.unwrap-after.ensures _ refl refl refl
