use Rattle.std.proofs.Common.{◌≡◌, ◌*◌, ◌/◌, ◌<◌, ◌≤◌, length, get_or, drop, [], ap, ◌∙◌, mul_comm, arith}
use Rattle.digest.specs.Words.{word}
use Rattle.digest.proofs.Padding.{chunk_word, partly_none, partly_more, partly_end, word_end}
use Rattle.digest.proofs.blocks.end_words.Goals as goal

pub loop-t-init : goal.loop-t-init
loop-t-init c = partly_none _

pub loop-t-preserved : goal.loop-t-preserved
loop-t-preserved c =
    let l = c.loop-t in
    let m = c.args.rest.now in
    let chunks = c.as_chunks.ensures in
    let below : l.t < length m / 4 = omega (arith, c.loop-t-test.true, chunks.front_len) in
    let next : c.from_be_bytes.result ≡ word m l.t = c.from_be_bytes.ensures ∙ ap (λ fours. word (get_or fours l.t []) 0) chunks.front ∙ chunk_word (length m / 4) m l.t below in
    partly_more m l.words l.t _ l.invariant (omega (arith, c.requires)) next

pub returns : goal.returns
returns c =
    let m = c.args.rest.now in
    let chunks = c.as_chunks.ensures in
    let j = length m / 4 in
    let within : 4 * j ≤ length m = omega arith in
    let end = c.end_word.ensures ∙ word_end m j _ (chunks.back ∙ ap (λ n. drop n m) (mul_comm j 4)) within in
    partly_end m c.loop-t.words c.loop-t.t _ _ c.requires chunks.front_len (omega (arith, c.loop-t-test.false)) c.loop-t.invariant end
