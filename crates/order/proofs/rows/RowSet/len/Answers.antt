use Rattle.std.proofs.Common.{arith}
use Rattle.order.proofs.Sets.{counts}
use Rattle.order.proofs.rows.RowSet.len.Goals as goal

pub returns-clause-value : goal.returns-clause-value
returns-clause-value c = counts c.args.self (omega arith)
