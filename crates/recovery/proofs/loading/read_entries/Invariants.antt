-- The entries that were passed are read, and made the catalogue.
use Rattle.std.proofs.Common.{◌≡◌, true, ◌⊎◌}
use Rattle.recovery.specs.Loaded.{FreshFor, SoFar}
use Rattle.recovery.proofs.loading.read_entries.Given as goal

abbrev pub invariant-loop-position : goal.invariant-loop-position
invariant-loop-position g l =
    ((l.position ≡ 0) ⊎ ((g.D.Disk.means l.disk).lit ≡ true))
    × (FreshFor (g.D.Disk.means l.disk) l.initial.catalogue → SoFar (g.D.Disk.means l.disk) l.at l.position l.catalogue)
