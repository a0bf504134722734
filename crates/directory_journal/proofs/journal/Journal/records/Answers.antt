use Rattle.std.proofs.Common.{◌≡◌, length, take, Ok, sym, ap, ◌∙◌, arith, length-take-le}
use Rattle.directory_journal.specs.Meaning.{journal_bytes, journal_meaning}
use Rattle.directory_journal.proofs.Same.{said}
use Rattle.directory_journal.proofs.journal.Journal.records.Goals as goal

pub returns-clause-end : goal.returns-clause-end
returns-clause-end c =
    let j = c.args.self.now in
    let len : length (take j.used c.as_slice.result.now) ≡ j.used =
    rw c.as_slice.ensures.value (length-take-le j.used (journal_bytes j) (omega (arith, j.within, j.bytes.ok.0))) in
    said _ (journal_meaning j) j.used j.replays ∙ ap (λ n. Ok (journal_meaning j, n)) (sym len)
