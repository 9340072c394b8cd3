use Rattle.order.proofs.Sets.{some_first, all_first}
use Rattle.order.proofs.rows.RowSet.below.Goals as goal

pub returns-then-n-lt-WIDTH : goal.returns-then-n-lt-WIDTH
returns-then-n-lt-WIDTH c = some_first c.args.n c.if-n-lt-WIDTH.true

pub returns-else-n-lt-WIDTH : goal.returns-else-n-lt-WIDTH
returns-else-n-lt-WIDTH c = all_first c.args.n c.if-n-lt-WIDTH.false
