use Rattle.std.proofs.Common.{◌-◌, ◌<◌, Some, None, vec_items, arith}
use Rattle.catalogue.specs.Whole.{catalogue_of}
use Rattle.queries.specs.Room.{taken_by}
use Rattle.queries.proofs.Rooms.{limit_last, limit_more, limit_none, met_lent}
use Rattle.queries.proofs.freeing.free_run.Goals as goal

pub returns-in-None : goal.returns-in-None
returns-in-None c =
    let cat = c.args.catalogue.now in
    let building = c.args.building.now in
    let count = c.args.count in
    let end = c.loop-first.end in (
      λ none. absurd (omega arith),
      λ some.
          limit_last cat.blocks (taken_by (catalogue_of cat).paths building) count some end (omega arith)
          (met_lent c.paths.result.now (vec_items cat.paths) building (record { start = end - count; count = count }) None c.paths.ensures c.in-None.ensures) c.loop-first.invariant,
    )

pub loop-first-preserved : goal.loop-first-preserved
loop-first-preserved c =
    let cat = c.args.catalogue.now in
    let building = c.args.building.now in
    let count = c.args.count in
    let end = c.loop-first.end in
    limit_more cat.blocks (taken_by (catalogue_of cat).paths building) count (omega arith) end c.in-Some.taken (omega arith)
    (met_lent c.paths.result.now (vec_items cat.paths) building (record { start = end - count; count = count }) (Some c.in-Some.taken) c.paths.ensures c.in-Some.ensures) c.loop-first.invariant

pub returns : goal.returns
returns c =
    let cat = c.args.catalogue.now in
    let some : 0 < c.args.count = omega arith in
    (some, limit_none cat.blocks (taken_by (catalogue_of cat).paths c.args.building.now) c.args.count some c.loop-first.end (omega arith) c.loop-first.invariant)
