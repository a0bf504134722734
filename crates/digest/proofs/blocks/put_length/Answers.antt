use Rattle.std.proofs.Common.{◌*◌, ◌%◌, ◌^◌, sym, ap, ◌∙◌, mul_comm}
use Rattle.std.proofs.lemmas.Nat.{and_mask}
use Rattle.digest.specs.Words.{word}
use Rattle.digest.specs.Message.{be8}
use Rattle.digest.proofs.Padding.{word_high, word_low}
use Rattle.digest.proofs.blocks.put_length.Goals as goal

pub returns : goal.returns
returns c =
    let bits = c.args.len * 8 in
    let same = mul_comm c.args.len 8 in
    let high = ap (λ x. word (be8 x) 0) (sym same) ∙ word_high bits in
    let low = ap (λ x. word (be8 x) 1) (sym same) ∙ word_low bits in
    let mask = and_mask (bits % 2 ^ 64) 32 in
    cc
