use Rattle.order.proofs.Sets.{adds}
use Rattle.order.proofs.rows.RowSet.insert.Goals as goal

pub returns-then-row-lt-WIDTH : goal.returns-then-row-lt-WIDTH
returns-then-row-lt-WIDTH c = adds c.args.self.now.bits c.args.row c.if-row-lt-WIDTH.true
