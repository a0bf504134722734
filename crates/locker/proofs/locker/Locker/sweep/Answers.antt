use Rattle.std.proofs.Common.{◌≡◌, ℕ, Ok, Err, Result, sym, subst, rules}
use Rattle.refusal.specs.declared.CloudFault.{CloudFault}
use Rattle.refusal.specs.declared.Refusal.{Refusal}
use Rattle.refusal.specs.declared.Refusal.TheVariants.{CloudRefused}
use Rattle.protocol.specs.Slots.{SweepingValue}
use Rattle.protocol.specs.State.{Setting, State, slot_of}
use Rattle.protocol.specs.Sweeping.{Swept}
use Rattle.protocol.specs.Steps.{sweeping_of}
use Rattle.slots.specs.Values.{setting_of, sweeping_value}
use Rattle.locker.specs.Held.{state_of, swept_said}
use Rattle.locker.proofs.Grounds.{done_by}
use Rattle.locker.proofs.Sweeps.{sweep_there}
use Rattle.locker.proofs.locker.Locker.sweep.Goals as goal

pub returns-in_err-dropped-clause-row : goal.returns-in_err-dropped-clause-row
returns-in_err-dropped-clause-row g c =
    let S : Setting = setting_of g.K.DigestKind.digested c.args.self.now.limits in
    let row = c.args.self.now.row in
    let row' = c.sweep.new.row in
    let s : State = state_of g.D.Directory.meaning g.R.Row.clouds g.K.DigestKind.digested c.args.self.now in
    let p = c.args.party in
    let i = c.args.cloud in
    let there = sweep_there S s p c.in_ok-party.party i (sweeping_value c.in_ok-sweeping.sweeping) c.in_ok-party.ensures c.in_ok-check_cloud.ensures c.in_ok-sweeping.ensures in
    let fault : CloudFault = c.in_err-dropped.field-0.0 in
    let told : c.from_residual-in_err-dropped.result ≡ Err (CloudRefused fault) = search rules in
    let chain = subst (λ (x : SweepingValue). Swept (λ a above place answer place' b. g.R.Row.nexts a i above place answer place' b) (λ a name answer b. g.R.Row.drops a i name answer b) x row row' (Err fault.cause)) there.1 c.in_err-dropped.ensures.chain in
    done_by _ _ _ there.0 (subst (λ (r : Result ℕ Refusal). Swept (λ a above place answer place' b. g.R.Row.nexts a i above place answer place' b) (λ a name answer b. g.R.Row.drops a i name answer b) (sweeping_of (slot_of s p)) row row' (swept_said r)) (sym told) chain)

pub returns-clause-row : goal.returns-clause-row
returns-clause-row g c =
    let S : Setting = setting_of g.K.DigestKind.digested c.args.self.now.limits in
    let s : State = state_of g.D.Directory.meaning g.R.Row.clouds g.K.DigestKind.digested c.args.self.now in
    let i = c.args.cloud in
    let there = sweep_there S s c.args.party c.in_ok-party.party i (sweeping_value c.in_ok-sweeping.sweeping) c.in_ok-party.ensures c.in_ok-check_cloud.ensures c.in_ok-sweeping.ensures in
    done_by _ _ _ there.0 (subst (λ (x : SweepingValue). Swept (λ a above place answer place' b. g.R.Row.nexts a i above place answer place' b) (λ a name answer b. g.R.Row.drops a i name answer b) x c.args.self.now.row c.sweep.new.row (Ok c.in_ok-dropped.dropped)) there.1 c.in_ok-dropped.ensures.chain)
