use Rattle.catalogue.specs.Whole.{catalogue_of}
use Rattle.queries.proofs.Members.{Walked}
use Rattle.queries.proofs.closing.closure.Given as goal

abbrev pub invariant-loop-place : goal.invariant-loop-place
invariant-loop-place l = Walked (catalogue_of l.catalogue).paths l.row l.members l.place
