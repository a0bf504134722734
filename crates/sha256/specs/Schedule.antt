-- The mix of the message schedule.
use lib.Dec.{lit<, lit≤}
use Rattle.digest.specs.Rounds.{ReadsSixteen}
use Rattle.sha256.specs.Sha256.{mixed}

pub reads_sixteen : ReadsSixteen mixed
reads_sixteen f g same =
    let a = same 2 (lit< tt) (lit≤ tt) in
    let b = same 7 (lit< tt) (lit≤ tt) in
    let c = same 15 (lit< tt) (lit≤ tt) in
    let d = same 16 (lit< tt) (lit≤ tt) in
    cc
