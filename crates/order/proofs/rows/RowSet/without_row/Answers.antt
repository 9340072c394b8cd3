use Rattle.std.proofs.Common.{arith}
use Rattle.order.proofs.Sets.{closes, all_low}
use Rattle.order.proofs.rows.RowSet.without_row.Goals as goal

pub returns-then-row-ge-WIDTH : goal.returns-then-row-ge-WIDTH
returns-then-row-ge-WIDTH c = all_low c.args.self.bits c.args.row (omega arith) (omega arith)

pub returns : goal.returns
returns c = closes c.args.self.bits c.args.row (omega arith) (omega arith)
