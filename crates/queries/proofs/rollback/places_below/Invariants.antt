use Rattle.std.proofs.Common.{◌<◌, map}
use Rattle.records.specs.View.{generation_of}
use Rattle.queries.specs.Newest.{number_at}
use Rattle.queries.proofs.Founds.{Found}
use Rattle.queries.proofs.rollback.places_below.Given as goal

abbrev pub invariant-loop-place : goal.invariant-loop-place
invariant-loop-place l = Found (λ k. number_at (map generation_of l.generations) k < l.number) l.place l.places
