use Rattle.std.proofs.Common.{◌≡◌, ℕ, ◌-◌, List, set, Ok, Err, refl, ap, ◌∙◌, subst, rules}
use Rattle.refusal.specs.declared.CloudFault.{CloudFault}
use Rattle.refusal.specs.declared.Refusal.TheVariants.{CloudRefused}
use Rattle.entry.specs.Clouds.{count}
use Rattle.protocol.specs.Slots.{SavingValue, saving}
use Rattle.protocol.specs.State.{Setting, State, slot_of}
use Rattle.protocol.specs.Steps.{save_name, saving_of, acknowledged}
use Rattle.slots.specs.Values.{setting_of, saving_value}
use Rattle.locker.specs.Held.{state_of}
use Rattle.locker.proofs.Grounds.{known_party}
use Rattle.locker.proofs.Storing.{fault_is, store_allowed, one_more, store_failed, store_done}
use Rattle.locker.proofs.locker.Locker.store.Goals as goal

pub returns-in_err-put_at-clause-call : goal.returns-in_err-put_at-clause-call
returns-in_err-put_at-clause-call g c =
    let S : Setting = setting_of g.K.DigestKind.digested c.args.self.now.limits in
    let s : State = state_of g.D.Directory.meaning g.R.Row.clouds g.K.DigestKind.digested c.args.self.now in
    let p = c.args.party in
    let i = c.args.cloud in
    let v = c.args.value.now in
    let row = c.args.self.now.row in
    let row' = c.put_at.new.row in
    let allowed = store_allowed S s p c.in_ok-party.party i v (saving_value c.in_ok-saving.saving) c.in_ok-party.ensures c.in_ok-check_value.ensures c.in_ok-check_cloud.ensures c.in_ok-saving.ensures in
    let name : List ℕ = save_name (saving_of (slot_of s p)) in
    let fault : CloudFault = c.in_err-put_at.field-0.0 in
    let met = c.in_err-put_at.ensures in
    let at = (fault_is i (Err fault.cause) fault met.fault).1 in
    let told : c.from_residual-in_err-put_at.result ≡ Err (CloudRefused fault) = search rules in
    let asked : g.R.Row.puts row i name v (Err fault.cause) row' = subst (λ (x : SavingValue). g.R.Row.puts row i (save_name x) v (Err fault.cause) row') allowed.1 met.asked in
    record { step = store_failed S s p i v (g.R.Row.clouds row') allowed.0 _ fault at told (g.met.R.Row.putting row i name v (Err fault.cause) row' asked); limits = refl }

pub returns-clause-call : goal.returns-clause-call
returns-clause-call g c =
    let S : Setting = setting_of g.K.DigestKind.digested c.args.self.now.limits in
    let s : State = state_of g.D.Directory.meaning g.R.Row.clouds g.K.DigestKind.digested c.args.self.now in
    let p = c.args.party in
    let n = c.in_ok-party.party in
    let i = c.args.cloud in
    let v = c.args.value.now in
    let row = c.args.self.now.row in
    let row' = c.put_at.new.row in
    let allowed = store_allowed S s p n i v (saving_value c.in_ok-saving.saving) c.in_ok-party.ensures c.in_ok-check_value.ensures c.in_ok-check_cloud.ensures c.in_ok-saving.ensures in
    let known = known_party p n c.in_ok-party.ensures in
    let x : SavingValue = saving_of (slot_of s p) in
    let name : List ℕ = save_name x in
    let asked : g.R.Row.puts row i name v (Ok tt) row' = subst (λ (y : SavingValue). g.R.Row.puts row i (save_name y) v (Ok tt) row') allowed.1 c.in_ok-put_at.ensures.asked in
    let more = one_more (saving_value c.in_ok-saving.saving) x i c.args.self.now.limits.clouds c.args.self.now.limits.most c.in_ok-check_cloud.ensures allowed.1 in
    let stored : saving_value c.acknowledged-saving.result ≡ acknowledged x i = c.acknowledged-saving.ensures ∙ more in
    record {
      step = store_done S s p i v (g.R.Row.clouds row') allowed.0 c.count.result c.turn.new.self
          (c.count.ensures ∙ ap (λ (y : SavingValue). count y.stored) stored)
          (c.turn.ensures ∙ ap (λ (y : SavingValue). set s.slots (n - 1) (saving y)) stored ∙ ap (λ (k : ℕ). set s.slots (k - 1) (saving (acknowledged x i))) known.1)
          (g.met.R.Row.putting row i name v (Ok tt) row' asked);
      limits = refl;
    }
