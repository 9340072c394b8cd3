use Rattle.std.proofs.Common.{arith}
use Rattle.order.proofs.Digits.{bit_below}
use Rattle.order.proofs.Sets.{past_width}
use Rattle.order.proofs.rows.RowSet.contains.Goals as goal

pub returns-then-row-lt-WIDTH-clause-within : goal.returns-then-row-lt-WIDTH-clause-within
returns-then-row-lt-WIDTH-clause-within c k one = bit_below c.args.self.bits 64 k (omega arith) one

pub returns-else-row-lt-WIDTH : goal.returns-else-row-lt-WIDTH
returns-else-row-lt-WIDTH c =
    let bits = c.args.self.bits in
    record { test = past_width bits c.args.row (omega arith) (omega arith); within = λ k one. bit_below bits 64 k (omega arith) one }
