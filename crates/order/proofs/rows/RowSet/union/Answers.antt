use Rattle.order.proofs.Sets.{joins}
use Rattle.order.proofs.rows.RowSet.union.Goals as goal

pub returns : goal.returns
returns c = joins c.args.self.bits c.args.other.bits
