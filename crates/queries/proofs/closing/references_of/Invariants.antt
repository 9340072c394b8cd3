use Rattle.std.proofs.Common.{map}
use Rattle.records.specs.View.{path_of}
use Rattle.queries.specs.Reach.{Leads}
use Rattle.queries.proofs.Founds.{Found}
use Rattle.queries.proofs.closing.references_of.Given as goal

abbrev pub invariant-loop-place : goal.invariant-loop-place
invariant-loop-place l = Found (Leads (map path_of l.paths) l.row) l.place l.rows
