use Rattle.std.proofs.Common.{◌≡◌, ◌≤◌, length, refl, ap, append_assoc, length-append, arith, rules}
use Rattle.naming.proofs.Keys.{valid_key_high}
use Rattle.journal_record.specs.Layout.{head_of}
use Rattle.journal_record.proofs.record.Record.head.Goals as goal

pub overflow_cast-len : goal.overflow_cast-len
overflow_cast-len c = let k = c.args.self.now.at.key in omega (arith, valid_key_high k.bytes k.valid)

pub unwrap-requires-2 : goal.unwrap-requires-2
unwrap-requires-2 c =
    let k = c.args.self.now.at.key in
    let first = rw c.unwrap.ensures at c.append.ensures.appended in
    let two : length c.append.new.self ≡ 2 = rw (first, c.new-buffer.ensures) refl in
    c.append-2.ensures.room.1 (omega (arith, two, ap length c.as_bytes.ensures, valid_key_high k.bytes k.valid))

pub unwrap-requires-3 : goal.unwrap-requires-3
unwrap-requires-3 c =
    let k = c.args.self.now.at.key in
    let first = rw c.unwrap.ensures at c.append.ensures.appended in
    let second = rw c.unwrap-2.ensures at c.append-2.ensures.appended in
    let most : length c.append-2.new.self ≤ 34 = rw (second, first, c.new-buffer.ensures) (omega (arith, ap length c.as_bytes.ensures, valid_key_high k.bytes k.valid)) in
    c.append-3.ensures.room.1 (omega (arith, most, ap length c.to_be_bytes.ensures))

pub unwrap-requires-4 : goal.unwrap-requires-4
unwrap-requires-4 c =
    let k = c.args.self.now.at.key in
    let first = rw c.unwrap.ensures at c.append.ensures.appended in
    let second = rw c.unwrap-2.ensures at c.append-2.ensures.appended in
    let third = rw c.unwrap-3.ensures at c.append-3.ensures.appended in
    let most : length c.append-3.new.self ≤ 38 = rw (third, second, first, c.new-buffer.ensures, length-append) (omega (arith, ap length c.as_bytes.ensures, ap length c.to_be_bytes.ensures, valid_key_high k.bytes k.valid)) in
    c.append-4.ensures.room.1 (omega (arith, most))

pub returns : goal.returns
unfolding head_of
returns c = search (rules, append_assoc)
