use Rattle.std.proofs.Common.{rules}
use Rattle.byte_strings.specs.OrderLaws.{byte_strings_are_strictly_ordered}
use Rattle.byte_strings.proofs.compare.is_below.Goals as goal

pub returns : goal.returns
returns c = record { value = search rules; ordered = byte_strings_are_strictly_ordered }
