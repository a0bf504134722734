use Rattle.std.proofs.Common.{rules}
use Rattle.digest_cases.proofs.pattern.pattern.Goals as goal

pub returns : goal.returns
returns c k low = let x = (c.from_fn.ensures.items.at k 0 low).2 in search (rules, x)
