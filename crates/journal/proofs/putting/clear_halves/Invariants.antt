-- The blocks that were passed are zeros.
use Rattle.std.proofs.Common.{◌≡◌, true}
use Rattle.journal.specs.Steps.{Zeroed}
use Rattle.journal.proofs.putting.clear_halves.Given as goal

abbrev pub invariant-loop-b : goal.invariant-loop-b
invariant-loop-b g l =
    (g.D.Disk.means l.initial.disk).lit ≡ true → Zeroed (g.D.Disk.means l.initial.disk) l.b (g.D.Disk.means l.disk)
