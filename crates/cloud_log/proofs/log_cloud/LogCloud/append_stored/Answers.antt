use Rattle.std.proofs.Common.{◌≡◌, length, refl, ap, rules, arith}
use Rattle.log_record.specs.Records.{stored}
use Rattle.log_record.proofs.Outcomes.{stored_valid}
use Rattle.log_record.proofs.ReadBack.{length_stored}
use Rattle.cloud_log.proofs.State.{Appending, appending, appended, grown, one_more, sound_stored}
use Rattle.cloud_log.proofs.log_cloud.LogCloud.append_stored.Goals as goal
use Rattle.cloud_log.proofs.log_cloud.LogCloud.append_stored.Goals.{After-write_stored}

here : (c : After-write_stored) → Appending c.args.self.now (stored c.args.name.now c.args.value.now) c.write_stored.new.bytes c.write_stored.result
here c =
    appending c.args.self.now _ (stored_valid _ _ c.requires.short c.requires.small) (omega (arith, c.requires.room, length_stored c.args.name.now c.args.value.now))
    c.deref_mut.ensures.value c.write_stored.ensures.written

pub unwrap-end-requires : goal.unwrap-end-requires
unwrap-end-requires c = appended (here (goal.at.unwrap-end-requires c).After-write_stored)

pub push_reserved-requires : goal.push_reserved-requires
push_reserved-requires c =
    let s = c.args.self.now in
    omega (arith, one_more s c.args.name.now c.args.place c.requires.placed c.requires.free, ap length c.forget.ensures.items, c.forget.new.index.ok.0, s.reserved, c.forget.ensures.capacity)

pub invariant_of-self-clause-reserved : goal.invariant_of-self-clause-reserved
invariant_of-self-clause-reserved c =
    let s = c.args.self.now in (
      omega (arith, one_more s c.args.name.now c.args.place c.requires.placed c.requires.free, ap length c.forget.ensures.items, c.forget.new.index.ok.0, c.push_reserved.ensures.len),
      omega (arith, s.reserved, c.forget.ensures.capacity, c.push_reserved.ensures.capacity),
    )

pub invariant_of-self-clause-sound : goal.invariant_of-self-clause-sound
invariant_of-self-clause-sound c =
    let n : c.unwrap.result ≡ c.args.name.now = search rules in
    sound_stored (here (goal.at.invariant_of-self-clause-sound c).After-write_stored) c.unwrap-end.ensures c.args.place c.requires.placed _ _ _ c.forget.ensures.items c.push_reserved.ensures.items n refl refl

pub returns : goal.returns
returns c = grown (here (goal.at.returns c).After-write_stored) c.unwrap-end.ensures _ refl refl refl
