-- SHA-0, the first version of SHA-1, as FIPS 180 defined it: SHA-1 but for the rotation in the message schedule.
use Rattle.std.proofs.Common.{ℕ, lit<, lit≤}
use Rattle.std.specs.Prelude.{bit_xor}
use Rattle.digest.specs.Rounds.{ReadsSixteen}

-- a word of the message schedule, from the words 3, 8, 14 and 16 places back
abbrev pub mixed : (ℕ → ℕ) → ℕ
mixed back = bit_xor (bit_xor (bit_xor (back 3) (back 8)) (back 14)) (back 16)

pub reads_sixteen : ReadsSixteen mixed
reads_sixteen f g same =
    let a = same 3 (lit< tt) (lit≤ tt) in
    let b = same 8 (lit< tt) (lit≤ tt) in
    let c = same 14 (lit< tt) (lit≤ tt) in
    let d = same 16 (lit< tt) (lit≤ tt) in
    cc
