use Rattle.std.proofs.Common.{◌≡◌, ◌+◌, ◌-◌, length, drop, ap, ◌∙◌, arith}
use Rattle.std.proofs.lemmas.List.{drop-drop}
use Rattle.byte_strings.proofs.fixed.overwrite.Goals as goal

pub returns : goal.returns
returns c =
    let xs = c.args.buffer.now in
    let at = c.args.at in
    let n = length c.args.bytes.now in
    let span : at + (at + n - at) ≡ at + n = omega arith in
    let rest : drop (at + n - at) (drop at xs) ≡ drop (at + n) xs = drop-drop (at + n - at) at xs ∙ ap (λ m. drop m xs) span in
    let written = c.copy_from_slice.ensures.after in
    cc
