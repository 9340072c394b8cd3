use Rattle.catalogue.specs.Whole.{catalogue_of}
use Rattle.queries.specs.Room.{taken_by}
use Rattle.queries.proofs.Rooms.{Limit}
use Rattle.queries.proofs.freeing.free_run.Given as goal

abbrev pub invariant-loop-first : goal.invariant-loop-first
invariant-loop-first l = Limit l.catalogue.blocks (taken_by (catalogue_of l.catalogue).paths l.building) l.count l.end

abbrev pub decreases-loop-first : goal.decreases-loop-first
decreases-loop-first l = l.end
