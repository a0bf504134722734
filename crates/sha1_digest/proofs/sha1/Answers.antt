use Rattle.std.proofs.Common.{take, ap, ◌∙◌}
use Rattle.std.proofs.lemmas.List.{take_at}
use Rattle.sha1_digest.specs.Sha1.{sha1}
use Rattle.sha1_digest.specs.Digests.{length_sha1, digest_of_abc}
use Rattle.sha1_digest.proofs.sha1.Goals as goal

pub returns : goal.returns
returns c =
    let m = c.args.value.now in
    let chunk = rw c.unwrap.ensures at c.try_from.ensures.1 in
    record {
      value = chunk.same ∙ ap (take 20) c.digest.ensures ∙ take_at (sha1 m) _ 20 (length_sha1 m);
      example = digest_of_abc;
    }
