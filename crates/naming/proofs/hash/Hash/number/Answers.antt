use Rattle.std.proofs.Common.{rules}
use Rattle.naming.specs.Order.{InParts}
use Rattle.naming.proofs.Words.{in_parts}
use Rattle.naming.proofs.hash.Hash.number.Goals as goal

pub returns : goal.returns
returns c =
    let h = c.args.self.now in
    let known : InParts h.bytes (c.from_le_bytes.result, c.from_le_bytes-2.result) =
    in_parts h.bytes c.unwrap.result c.unwrap-2.result c.from_le_bytes.result c.from_le_bytes-2.result h.whole (search rules) (search rules) c.from_le_bytes.ensures c.from_le_bytes-2.ensures
    in
    search (rules, known)
