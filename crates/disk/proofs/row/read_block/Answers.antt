use Rattle.std.proofs.Common.{◌<◌, arith, rules}
use Rattle.disk.specs.Row.{blocks_in}
use Rattle.disk.proofs.Rows.{chunk_is_block}
use Rattle.disk.proofs.row.read_block.Goals as goal

pub returns : goal.returns
returns c =
    let item = rw c.in_ok-into.ensures.ok_part at c.get.ensures.lookup in
    let within : c.args.b < blocks_in c.args.row.now = omega (arith, item.3.0, c.as_chunks.ensures.front_len) in
    let known = chunk_is_block _ _ _ _ c.as_chunks.ensures.front within (item.4 (omega arith) _) in
    (within, search (rules, known))
