use Rattle.std.proofs.Common.{refl}
use Rattle.order.proofs.Sets.{drops}
use Rattle.order.proofs.rows.RowSet.remove.Goals as goal

pub returns-then-contains : goal.returns-then-contains
returns-then-contains c =
    let there = c.if-contains.ensures.test.0 refl in
    drops c.args.self.now.bits c.args.row (c.if-contains.ensures.within c.args.row there) there
