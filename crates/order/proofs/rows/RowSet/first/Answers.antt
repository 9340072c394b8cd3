use Rattle.std.proofs.Common.{arith}
use Rattle.order.proofs.Sets.{least_told}
use Rattle.order.proofs.rows.RowSet.first.Goals as goal

pub returns : goal.returns
returns c = least_told c.args.self c.then_some.result (omega arith) c.then_some.ensures
