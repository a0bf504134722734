use Rattle.std.proofs.Common.{◌≡◌, ◌≤◌, length, refl, ap, ◌∙◌, arith, rules, length-append}
use Rattle.naming.specs.Names.{name_front}
use Rattle.naming.proofs.Keys.{valid_key_high}
use Rattle.naming.proofs.Names.{length_stamp_bytes, names_are_distinct, names_keep_the_order_of_stamps}
use Rattle.naming.proofs.name.Name.new.Goals as goal

pub unwrap-requires-2 : goal.unwrap-requires-2
unwrap-requires-2 c =
    let first = rw c.unwrap.ensures at c.append.ensures.appended in
    let one : length c.append.new.self ≡ 1 = rw (first, c.new-bytes.ensures) refl in
    c.append-2.ensures.room.1 (omega (arith, one, ap length c.as_bytes.ensures, valid_key_high _ c.args.at.now.key.valid))

pub unwrap-requires-3 : goal.unwrap-requires-3
unwrap-requires-3 c =
    let first = rw c.unwrap.ensures at c.append.ensures.appended in
    let second = rw c.unwrap-2.ensures at c.append-2.ensures.appended in
    let most : length c.append-2.new.self ≤ 33 = rw (second, first, c.new-bytes.ensures) (omega (arith, ap length c.as_bytes.ensures, valid_key_high _ c.args.at.now.key.valid)) in
    c.append-3.ensures.room.1 (omega (arith, most))

pub unwrap-requires-4 : goal.unwrap-requires-4
unwrap-requires-4 c =
    let first = rw c.unwrap.ensures at c.append.ensures.appended in
    let second = rw c.unwrap-2.ensures at c.append-2.ensures.appended in
    let third = rw c.unwrap-3.ensures at c.append-3.ensures.appended in
    let most : length c.append-3.new.self ≤ 34 = rw (third, second, first, c.new-bytes.ensures, length-append) (omega (arith, ap length c.as_bytes.ensures, valid_key_high _ c.args.at.now.key.valid)) in
    c.append-4.ensures.room.1 (omega (arith, most, ap length c.stamp_bytes.ensures ∙ length_stamp_bytes c.args.stamp.now))

pub returns : goal.returns
unfolding name_front
returns c = record { value = search rules; distinct = names_are_distinct; ordered = names_keep_the_order_of_stamps }
