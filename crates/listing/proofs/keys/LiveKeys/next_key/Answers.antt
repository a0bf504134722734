use Rattle.std.proofs.Common.{ap, ◌∙◌}
use Rattle.directory.specs.Calls.{key_after}
use Rattle.listing.proofs.Walk.{valid_next, key_read}
use Rattle.listing.proofs.keys.LiveKeys.next_key.Goals as goal

pub returns-clause-value : goal.returns-clause-value
returns-clause-value g c =
    let s = c.args.self.now in
    let d = s.directory.now in
    key_read _ (valid_next (g.D.Directory.meaning d) (g.met.D.Directory.limited d) s.container c.bytes_of-above.result.now) c.in_ok-len.len _ c.next.new.place c.in_ok-len.ensures.value c.next.ensures.written c.new.result c.new.ensures
    ∙ ap (key_after (g.D.Directory.meaning d) s.container) c.bytes_of-above.ensures
