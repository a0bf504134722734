use Rattle.sweeping.proofs.Asking.{length_fits, name_read}
use Rattle.sweeping.proofs.sweep.next_name.Goals as goal

pub returns-in-Some : goal.returns-in-Some
returns-in-Some g c =
    let asked = c.in_ok-next.ensures in
    name_read (λ a. g.R.Row.nexts a c.args.number) asked (length_fits (g.met.R.Row.nexting _ _ _ _ _ _ _ asked)) c.in-Some.is c.as_bytes.ensures.value c.from_bytes.result c.from_bytes.ensures
