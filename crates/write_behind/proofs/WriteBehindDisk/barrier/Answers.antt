use Rattle.std.proofs.lemmas.Result.{err_from_is_err_and}
use Rattle.write_behind.proofs.Layers.{barrier_passed, drain_undone, barrier_undone}
use Rattle.write_behind.proofs.Orders.{orderly_none, orderly_same}
use Rattle.std.proofs.Common.{refl}
use Rattle.write_behind.proofs.WriteBehindDisk.barrier.Goals as goal

pub returns-in_err-drain : goal.returns-in_err-drain
returns-in_err-drain g c =
    let p = err_from_is_err_and c.from_residual-in_err-drain.result c.from_residual-in_err-drain.ensures.1 in
    let undone = drain_undone g.D.Disk.means _ c.drain.new.below _ c.in_ok-power.ensures _ _ _ _ p.1 p.2 c.as_slice.ensures c.in_err-drain.ensures in
    record { meaning = undone.0; order = undone.1; orderly = λ o. orderly_same _ _ _ _ undone.2 refl o }

pub returns-in_err-barrier : goal.returns-in_err-barrier
returns-in_err-barrier g c =
    let drained = rw c.as_slice.ensures at c.in_ok-drain.ensures in
    let p = err_from_is_err_and c.from_residual-in_err-barrier.result c.from_residual-in_err-barrier.ensures.1 in
    let undone = barrier_undone g.D.Disk.means _ c.barrier.new.self _ c.in_ok-power.ensures c.drain.new.below _ _ _ p.1 p.2 drained c.in_err-barrier.ensures in
    record { meaning = undone.0; order = undone.1; orderly = λ o. orderly_same _ _ _ _ undone.2 refl o }

pub returns : goal.returns
returns g c =
    let drained = rw c.as_slice.ensures at c.in_ok-drain.ensures in
    let passed = c.in_ok-barrier.ensures in
    record {
      meaning = barrier_passed g.D.Disk.means _ c.barrier.new.self _ c.in_ok-power.ensures c.drain.new.below _ c.clear.ensures drained passed;
      order = (c.clear.ensures, (c.drain.new.below, (drained, passed)));
      orderly = λ o. orderly_none _ _ c.clear.ensures;
    }
