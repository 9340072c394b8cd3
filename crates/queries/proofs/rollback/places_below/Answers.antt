use Rattle.std.proofs.Common.{ℕ, ◌<◌, map, arith}
use Rattle.records.specs.View.{generation_of}
use Rattle.queries.specs.Newest.{number_at}
use Rattle.queries.proofs.Founds.{found_none, found_no, found_yes}
use Rattle.queries.proofs.Numbers.{read_number}
use Rattle.queries.proofs.rollback.places_below.Goals as goal
use Rattle.queries.proofs.rollback.places_below.Goals.{then-generation-number, else-generation-number}

pub loop-place-init : goal.loop-place-init
loop-place-init c =
    let Below : ℕ → Type 0 = λ k. number_at (map generation_of c.args.generations.now) k < c.args.number in
    found_none Below c.empty-places.result c.empty-places.ensures

pub loop-place-preserved : goal.loop-place-preserved
loop-place-preserved c =
    let xs = c.args.generations.now in
    let i = c.loop-place.place in
    let x = c.index-generations-place in
    let Below : ℕ → Type 0 = λ k. number_at (map generation_of xs) k < c.args.number in
    let read = read_number xs i x.result (omega arith) x.is in
    elim c.if-generation-number.branch [
      | then-generation-number w ↦
          rw w.places-is (found_yes Below i c.loop-place.places w.insert.new.self (omega (arith, read)) w.insert.ensures c.loop-place.invariant)
      | else-generation-number w ↦ rw w.places-is (found_no Below i c.loop-place.places (λ less. omega (arith, read, less)) c.loop-place.invariant)
    ]

pub returns : goal.returns
returns c k =
    let all = c.loop-place.invariant k in (
      λ h. let was = all.0 h in (omega (arith, was.0), was.1),
      λ h. all.1 (omega (arith, h.0), h.1),
    )
