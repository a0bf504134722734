use Rattle.std.proofs.Common.{ap, ◌∙◌}
use Rattle.digest.proofs.Chaining.{with_length, ends_in_one, ends_in_two}
use Rattle.digest.proofs.chain.compress_end.Goals as goal
use Rattle.digest.proofs.chain.compress_end.Goals.{then-rest-ge-BEFORE_LENGTH, else-rest-ge-BEFORE_LENGTH}

pub returns : goal.returns
returns g c =
    let k = g.C.Compression in
    let compressed = k.compressed in
    let rest = c.args.rest.now in
    let n = c.args.len in
    let h = k.hash c.args.state.now in
    let ends = c.end_words-words.ensures in
    let last = c.if-rest-ge-BEFORE_LENGTH.words in
    c.compress-2.ensures ∙ ap (compressed (k.hash c.if-rest-ge-BEFORE_LENGTH.state)) c.put_length.ensures
    ∙ elim c.if-rest-ge-BEFORE_LENGTH.branch [
      | then-rest-ge-BEFORE_LENGTH w ↦
          ap (λ s. compressed (k.hash s) (with_length n last)) w.state-is ∙ ap (λ x. compressed x (with_length n last)) w.compress.ensures
          ∙ ap (λ ws. compressed (compressed h c.end_words-words.result) (with_length n ws)) w.words-is
          ∙ ends_in_two compressed rest n c.requires _ ends h w.if-rest-ge-BEFORE_LENGTH.true
      | else-rest-ge-BEFORE_LENGTH w ↦
          ap (λ s. compressed (k.hash s) (with_length n last)) w.state-is ∙ ap (λ ws. compressed h (with_length n ws)) w.words-is
          ∙ ends_in_one compressed rest n c.requires _ ends h w.if-rest-ge-BEFORE_LENGTH.false
    ]
