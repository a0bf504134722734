use Rattle.worked_examples.proofs.worked_examples_hold.Goals as goal
use Rattle.worked_examples.proofs.Table.{worked_examples}

pub returns : goal.returns
returns c = worked_examples
