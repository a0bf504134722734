use Rattle.std.proofs.Common.{◌≡◌, ◌*◌, ◌/◌, ◌++◌, [], length, get_or, drop, ap, ◌∙◌, arith, rules}
use Rattle.std.specs.List.{flat_map}
use Rattle.digest.specs.Words.{be4}
use Rattle.digest.specs.Message.{block, digest_of}
use Rattle.digest.proofs.Padding.{padding_right, chunk_block}
use Rattle.digest.proofs.Chaining.{chained_none, chained_more, chained_all}
use Rattle.digest.proofs.chain.digest_into.Goals as goal

pub loop-bytes-init : goal.loop-bytes-init
loop-bytes-init g c = search (rules, chained_none)

pub loop-bytes-preserved : goal.loop-bytes-preserved
loop-bytes-preserved g c =
    let k = g.C.Compression in
    let m = c.args.value.now in
    let i = c.loop-bytes.bytes-index in
    let chunks = c.as_chunks.ensures in
    let next = c.block_words.ensures ∙ ap (λ bs. block (get_or bs i []) 0) chunks.front ∙ chunk_block m i (omega (arith, c.loop-bytes-test.true, chunks.front_len)) in
    c.compress.ensures ∙ chained_more k.initial k.compressed m _ _ i c.loop-bytes.invariant next

pub returns : goal.returns
unfolding digest_of
returns g c =
    let k = g.C.Compression in
    let m = c.args.value.now in
    let chunks = c.as_chunks.ensures in
    let done : c.loop-bytes.bytes-index ≡ length m / 64 = omega (arith, c.loop-bytes-test.false, chunks.front_len) in
    let all = chained_all k.initial k.compressed m (k.hash c.loop-bytes.state) c.as_chunks.result.1.now (rw done at c.loop-bytes.invariant) chunks.back chunks.back_len in
    let words = c.words.ensures.value ∙ c.compress_end.ensures ∙ all in
    let value = c.write_words.ensures ∙ ap (λ n. flat_map be4 c.words.result.now ++ drop (4 * n) c.args.out.now) c.words.ensures.len
    ∙ ap (λ ws. flat_map be4 ws ++ drop (4 * k.size) c.args.out.now) words in
    record { value = value; padding = padding_right m }
