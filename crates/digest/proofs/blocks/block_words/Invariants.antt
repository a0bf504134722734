use Rattle.std.proofs.Common.{◌≡◌, ℕ, ◌<◌, length, get_or}
use Rattle.digest.specs.Words.{word}
use Rattle.digest.proofs.blocks.block_words.Given as goal

abbrev pub invariant-loop-t : goal.invariant-loop-t
invariant-loop-t l = (length l.words ≡ 16) × ((k : ℕ) → k < l.t → get_or l.words k 0 ≡ word l.fn.bytes k)
