-- The entries that were passed stand in the other half, and the card is backed as before.
use Rattle.std.proofs.Common.{◌≡◌, true}
use Rattle.model.specs.Standing.{Standing}
use Rattle.card.specs.Label.{Half}
use Rattle.catalogue.specs.Whole.{catalogue_of}
use Rattle.journal.specs.Backed.{Backed}
use Rattle.journal.specs.Steps.{DataKept}
use Rattle.journal.specs.Appends.{Listed, ListsInto}
use Rattle.journal.proofs.appending.put_listing.Given as goal

abbrev pub invariant-loop-place : goal.invariant-loop-place
invariant-loop-place g l =
    (h : Half) (s : Standing) → (g.D.Disk.means l.initial.disk).lit ≡ true → s.catalogue ≡ catalogue_of l.catalogue → ListsInto l.at h s
    → Backed (g.D.Disk.means l.initial.disk).blocks (g.D.Disk.means l.initial.disk).may h s
    → ((g.D.Disk.means l.disk).lit ≡ true) × DataKept (g.D.Disk.means l.initial.disk) (g.D.Disk.means l.disk)
    × Backed (g.D.Disk.means l.disk).blocks (g.D.Disk.means l.disk).may h s × Listed (g.D.Disk.means l.disk).may h s l.place
