use Rattle.std.proofs.Common.{sym}
use Rattle.bench_card.proofs.Copies.{reverted_kept, reverted_taken}
use Rattle.bench_card.proofs.blocks.revert.Goals as goal
use Rattle.bench_card.proofs.blocks.revert.Goals.{then-not-is_kept, else-not-is_kept}

pub loop-b-preserved : goal.loop-b-preserved
loop-b-preserved c =
    let less = c.loop-b-test.true in
    elim c.if-not-is_kept.branch [
      | then-not-is_kept w ↦ rw w.row-is (rw w.copy_block.ensures (reverted_taken _ _ _ _ _ c.requires less c.loop-b.invariant (sym w.if-not-is_kept.ensures)))
      | else-not-is_kept w ↦ rw w.row-is (reverted_kept _ _ _ _ _ c.requires less c.loop-b.invariant (sym w.if-not-is_kept.ensures))
    ]
