use Rattle.digest.proofs.Padding.{Partly}
use Rattle.digest.proofs.blocks.end_words.Given as goal

abbrev pub invariant-loop-t : goal.invariant-loop-t
invariant-loop-t l = Partly l.rest l.words l.t
