use Rattle.std.proofs.Common.{refl, inl, inr, arith}
use Rattle.recovery.proofs.Takes.{so_far_none, so_far_more}
use Rattle.recovery.proofs.loading.read_entries.Goals as goal

pub loop-position-init : goal.loop-position-init
loop-position-init g c = (inl refl, so_far_none _ _ _)

pub loop-position-preserved : goal.loop-position-preserved
loop-position-preserved g c =
    let slot = rw c.unwrap-slot.ensures at c.slot.ensures in
    let read = c.in_ok-read_slot.ensures _ _ slot.1 in
    let done = rw c.if-not-branch.false at read in
    (inr done.0, λ fresh. so_far_more _ _ c.loop-position.position _ _ (omega arith) (c.loop-position.invariant.1 fresh) done.1 done.2)
