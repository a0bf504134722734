use Rattle.std.proofs.Common.{◌≡◌, true, length, vec_items, sym, refl, subst, arith}
use Rattle.cloud_log.specs.Index.{laid}
use Rattle.cloud_log.proofs.Standing.{laid_higher}
use Rattle.cloud_log.proofs.State.{room_behind, closed_sound, closed_held, closed_names}
use Rattle.cloud_log.proofs.log_cloud.LogCloud.make_room.Goals as goal

pub close_up-self-requires : goal.close_up-self-requires
close_up-self-requires c =
    let s = c.args.self.now in
    let b = c.deref_mut.result.now in
    let t = subst (λ x. laid x 0 s.used (vec_items s.index) ≡ true) (sym c.deref_mut.ensures.value) s.sound.laid_out in
    let u = laid_higher b 0 s.used (length b) (vec_items s.index) (omega (arith, c.deref_mut.ensures.len, s.sound.within, s.bytes.ok.0)) t in
    subst (λ x. laid b 0 (length b) x ≡ true) (sym c.deref_mut-then-len-self.ensures.value) u

pub invariant_of-self-clause-sound : goal.invariant_of-self-clause-sound
invariant_of-self-clause-sound c = closed_sound c.args.self.now _ _ _ _ _ c.deref_mut.ensures.value c.deref_mut-then-len-self.ensures.value (omega arith) (omega arith) c.close_up-self.ensures

pub returns-then-len-self : goal.returns-then-len-self
returns-then-len-self c =
    let s = c.args.self.now in
    let vb = c.deref_mut.ensures.value in
    let ve = c.deref_mut-then-len-self.ensures.value in
    let b' = c.close_up-self.new.bytes in
    let es' = c.close_up-self.new.index in
    let r = room_behind s _ b' _ es' c.close_up-self.result vb ve (omega arith) (omega arith) c.close_up-self.ensures in
    record {
      same_memory = refl;
      unmoved = λ h. absurd (omega (arith, h, c.if-len-self.true, c.len.ensures));
      same_held = closed_held s _ b' _ es' c.close_up-self.result vb ve (omega arith) (omega arith) c.close_up-self.ensures;
      same_names = closed_names s _ b' _ es' c.close_up-self.result vb ve (omega arith) (omega arith) c.close_up-self.ensures;
      same_places = refl;
      room = omega (arith, r);
    }
