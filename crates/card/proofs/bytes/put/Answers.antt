use Rattle.std.proofs.Common.{arith}
use Rattle.card.proofs.Writes.{put_here, put_kept}
use Rattle.card.proofs.bytes.put.Goals as goal

pub returns : goal.returns
returns c = record {
  here = put_here c.args.at _ c.args.block.now _ c.args.bytes.now c.copy_from_slice.ensures.after (omega arith) (omega arith);
  kept = put_kept c.args.at _ c.args.block.now _ c.args.bytes.now c.copy_from_slice.ensures.after (omega arith) (omega arith);
}
