use Rattle.std.proofs.Common.{◌≡◌, ◌*◌, ◌++◌, take, drop}
use Rattle.std.specs.List.{flat_map}
use Rattle.digest.specs.Words.{be4}
use Rattle.digest.proofs.chain.write_words.Given as goal

abbrev pub invariant-loop-i : goal.invariant-loop-i
invariant-loop-i l = l.out ≡ flat_map be4 (take l.i l.words) ++ drop (4 * l.i) l.initial.out
