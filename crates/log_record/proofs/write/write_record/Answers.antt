use Rattle.std.proofs.Common.{◌≡◌, ◌+◌, length, arith, length-append}
use Rattle.std.proofs.lemmas.Bool.Decides.{nat_tests}
use Rattle.std.proofs.lemmas.List.{drop-drop}
use Rattle.log_record.specs.Records.{framed}
use Rattle.log_record.specs.Written.{overwritten}
use Rattle.log_record.proofs.write.write_record.Goals as goal

pub returns : goal.returns
unfolding overwritten
returns c =
    let l : c.in_ok-end.end ≡ c.args.at + length (framed c.args.name.now c.args.size c.args.value.now) = grind (arith, length-append) in
    record { end = grind (arith, nat_tests); after = grind (arith, nat_tests, drop-drop) }
