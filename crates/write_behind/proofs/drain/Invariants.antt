use Rattle.std.proofs.Common.{take}
use Rattle.write_behind.specs.Order.{Drained}
use Rattle.write_behind.proofs.drain.Given as goal

abbrev pub invariant-loop-p : goal.invariant-loop-p
invariant-loop-p g l = Drained g.D.Disk.means l.initial.below (take l.p-index l.held) l.below
