use Rattle.std.proofs.Common.{rules}
use Rattle.naming.proofs.Parts.{parts_order}
use Rattle.naming.proofs.compare.HashOrd.cmp.Goals as goal

pub returns : goal.returns
returns c =
    let ours = c.number.result in
    let theirs = c.number-2.result in
    let known = parts_order c.args.self.now c.args.other.now ours.0 ours.1 theirs.0 theirs.1 c.cmp.result c.number.ensures c.number-2.ensures (search rules) (search rules) c.cmp.ensures in
    search (rules, known)
