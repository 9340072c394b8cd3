use Rattle.ledger.proofs.Worked.{examples}
use Rattle.ledger.proofs.worked_examples_hold.Goals as goal

pub returns : goal.returns
returns c = examples
