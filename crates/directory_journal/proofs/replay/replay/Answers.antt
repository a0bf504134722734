use Rattle.std.proofs.Common.{◌≡◌, Err, refl, ap, ◌∙◌, arith, rules}
use Rattle.refusal.specs.declared.Refusal.TheVariants.{CorruptJournal}
use Rattle.directory_table.specs.Making.{table_meaning}
use Rattle.directory_journal.specs.Opening.{meaning_in}
use Rattle.directory_journal.proofs.Replaying.{turn_ends, turn_fails, turn_takes, turn_within, turn_goes_on}
use Rattle.directory_journal.proofs.replay.replay.Goals as goal

pub loop-index-init : goal.loop-index-init
loop-index-init c = (omega arith, refl, refl)

pub returns-in_err-at : goal.returns-in_err-at
returns-in_err-at c =
    let inv = c.loop-index.invariant in
    let none = c.in_err-at.ensures.ok_part in
    let why : Err c.in_err-at.field-0.0 ≡ Err (CorruptJournal c.loop-index.at) = rw none at c.in_err-at.ensures.value in
    let told : c.from_residual.result ≡ Err c.in_err-at.field-0.0 = search rules in
    let bad = turn_fails (table_meaning c.args.index.now) (table_meaning c.loop-index.index) c.args.bytes.now c.loop-index.at inv.2 c.loop-index-test.ensures (rw none at c.replay_one.ensures.value) in
    record { value = rw (told ∙ why) (ap meaning_in bad); places = c.replay_one.ensures.places ∙ inv.1 }

pub loop-index-smaller : goal.loop-index-smaller
loop-index-smaller c =
    let inv = c.loop-index.invariant in
    let low = turn_takes (table_meaning c.args.index.now) (table_meaning c.loop-index.index) c.args.bytes.now c.loop-index.at inv.2 (table_meaning c.replay_one.new.index) c.in_ok-at.field-0 (rw c.in_ok-at.ensures.ok_part at c.replay_one.ensures.value) in
    let high = turn_within (table_meaning c.args.index.now) (table_meaning c.loop-index.index) c.args.bytes.now c.loop-index.at inv.2 (table_meaning c.replay_one.new.index) c.in_ok-at.field-0 (rw c.in_ok-at.ensures.ok_part at c.replay_one.ensures.value) inv.0 in
    omega (arith, low, high)

pub loop-index-preserved : goal.loop-index-preserved
loop-index-preserved c =
    let inv = c.loop-index.invariant in
    let first = table_meaning c.args.index.now in
    let now = table_meaning c.loop-index.index in
    let after = table_meaning c.replay_one.new.index in (
      turn_within first now c.args.bytes.now c.loop-index.at inv.2 after c.in_ok-at.field-0 (rw c.in_ok-at.ensures.ok_part at c.replay_one.ensures.value) inv.0,
      c.replay_one.ensures.places ∙ inv.1,
      turn_goes_on first now c.args.bytes.now c.loop-index.at inv.2 after c.in_ok-at.field-0 (rw c.in_ok-at.ensures.ok_part at c.replay_one.ensures.value) c.loop-index-test.ensures,
    )

pub returns : goal.returns
returns c =
    let inv = c.loop-index.invariant in
    record {
      value = (turn_ends (table_meaning c.args.index.now) (table_meaning c.loop-index.index) c.args.bytes.now c.loop-index.at inv.2 c.loop-index-test.ensures, inv.0);
      places = inv.1;
    }
