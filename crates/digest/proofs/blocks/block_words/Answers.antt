use Rattle.std.proofs.Common.{◌≡◌, ◌<◌, length, get_or, [], ap, ◌∙◌, zero-add, arith, length-set}
use Rattle.std.proofs.lemmas.List.Edits.{fill_by_more}
use Rattle.digest.specs.Words.{word}
use Rattle.digest.proofs.Padding.{block_filled, chunk_word}
use Rattle.digest.proofs.blocks.block_words.Goals as goal

pub loop-t-preserved : goal.loop-t-preserved
loop-t-preserved c =
    let l = c.loop-t in
    let bytes = c.args.bytes.now in
    let below : l.t < 16 = omega (arith, c.loop-t-test.true, c.as_chunks.ensures.front_len, c.told-bytes) in
    let within : l.t < length l.words = omega (arith, l.invariant.0, below) in
    let front = rw c.told-bytes at c.as_chunks.ensures.front in
    let next : c.from_be_bytes.result ≡ word bytes l.t = c.from_be_bytes.ensures ∙ ap (λ chunks. word (get_or chunks l.t []) 0) front ∙ chunk_word 16 bytes l.t below in
    (simp length-set l.invariant.0, rw next (fill_by_more (word bytes) l.words l.t 0 within l.invariant.1))

pub returns : goal.returns
returns c =
    block_filled c.args.bytes.now 0 c.loop-t.words c.loop-t.invariant.0
    (λ k low. rw zero-add (c.loop-t.invariant.1 k (omega (arith, c.loop-t-test.false, c.as_chunks.ensures.front_len, c.told-bytes))))
