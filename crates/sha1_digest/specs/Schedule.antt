-- The mix of the message schedule.
use Rattle.std.proofs.Common.{lit<, lit≤}
use Rattle.digest.specs.Rounds.{ReadsSixteen}
use Rattle.sha1_digest.specs.Sha1.{mixed}

pub reads_sixteen : ReadsSixteen mixed
reads_sixteen f g same =
    let a = same 3 (lit< tt) (lit≤ tt) in
    let b = same 8 (lit< tt) (lit≤ tt) in
    let c = same 14 (lit< tt) (lit≤ tt) in
    let d = same 16 (lit< tt) (lit≤ tt) in
    cc
