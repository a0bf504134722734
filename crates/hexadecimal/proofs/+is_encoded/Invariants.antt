use Rattle.std.proofs.Common.{length}
use Rattle.hexadecimal.proofs.+is_encoded.Given as goal

abbrev pub decreases-is_encoded : goal.decreases-is_encoded
decreases-is_encoded l = length l.bytes.now
