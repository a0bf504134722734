use Rattle.std.proofs.Common.{◌≡◌, ℕ, ◌-◌, List, set, Ok, Err, Result, sym, refl, ap, ◌∙◌, subst, rules}
use Rattle.refusal.specs.declared.Refusal.{Refusal}
use Rattle.protocol.specs.Slots.{SlotValue, FetchingValue, idle}
use Rattle.protocol.specs.State.{Setting, State}
use Rattle.slots.specs.Values.{setting_of, fetching_value}
use Rattle.locker.specs.Held.{state_of}
use Rattle.locker.proofs.Grounds.{known_party}
use Rattle.locker.proofs.Trying.{try_allowed, TryEnd, Ends, try_failed, try_done}
use Rattle.locker.proofs.locker.Locker.try_cloud.Goals as goal

pub returns-in_err-size : goal.returns-in_err-size
returns-in_err-size g c =
    let S : Setting = setting_of g.K.DigestKind.digested c.args.self.now.limits in
    let d = g.D.Directory.meaning c.args.self.now.directory in
    let ss : List SlotValue = c.args.self.now.slots in
    let row = c.args.self.now.row in
    let row' = c.try_at.new.row in
    let s : State = state_of g.D.Directory.meaning g.R.Row.clouds g.K.DigestKind.digested c.args.self.now in
    let p = c.args.party in
    let i = c.args.cloud in
    let b = c.args.buffer.now in
    let b' = c.try_at.new.buffer in
    let e : Refusal = c.in_err-size.field-0.0 in
    let allowed = try_allowed S s p c.in_ok-party.party i b c.in_ok-party.ensures c.in_ok-check_cloud.ensures (fetching_value c.in_ok-fetching.fetching) c.in_ok-fetching.ensures in
    let end = subst (λ (y : FetchingValue). TryEnd g.R.Row.clouds g.R.Row.gets g.met.R.Row.getting S d ss row row' p i b b' y (Err e)) allowed.1 c.in_err-size.ensures in
    let told : c.from_residual-in_err-size.result ≡ Err e = search rules in
    let ends = subst (λ (r : Result ℕ Refusal). Ends g.R.Row.clouds g.R.Row.gets g.met.R.Row.getting S d ss row row' p i b b' r ss) (sym told) (try_failed g.R.Row.clouds g.R.Row.gets g.met.R.Row.getting S d ss row row' p i b b' e allowed.0 end) in
    record { call = record { step = ends.0; limits = refl }; row = ends.1 }

pub returns-clause-call : goal.returns-clause-call
returns-clause-call g c =
    let S : Setting = setting_of g.K.DigestKind.digested c.args.self.now.limits in
    let d = g.D.Directory.meaning c.args.self.now.directory in
    let ss : List SlotValue = c.args.self.now.slots in
    let row = c.args.self.now.row in
    let row' = c.try_at.new.row in
    let s : State = state_of g.D.Directory.meaning g.R.Row.clouds g.K.DigestKind.digested c.args.self.now in
    let p = c.args.party in
    let i = c.args.cloud in
    let b = c.args.buffer.now in
    let b' = c.try_at.new.buffer in
    let k = c.in_ok-size.size in
    let known = known_party p c.in_ok-party.party c.in_ok-party.ensures in
    let allowed = try_allowed S s p c.in_ok-party.party i b c.in_ok-party.ensures c.in_ok-check_cloud.ensures (fetching_value c.in_ok-fetching.fetching) c.in_ok-fetching.ensures in
    let end = subst (λ (y : FetchingValue). TryEnd g.R.Row.clouds g.R.Row.gets g.met.R.Row.getting S d ss row row' p i b b' y (Ok k)) allowed.1 c.in_ok-size.ensures in
    let turned : c.turn.new.self ≡ set ss (p - 1) idle = c.turn.ensures ∙ ap (λ (m : ℕ). set ss (m - 1) idle) known.1 in
    let ends = try_done g.R.Row.clouds g.R.Row.gets g.met.R.Row.getting S d ss row row' p i b b' k c.turn.new.self allowed.0 end turned in
    record { step = ends.0; limits = refl }
