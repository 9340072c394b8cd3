use Rattle.std.proofs.Common.{rules}
use Rattle.records.proofs.Registers.{registrable_told}
use Rattle.records.proofs.registering.is_registrable.Goals as goal
use Rattle.records.proofs.registering.is_registrable.Goals.{then-path-le-MOST_BYTES, else-path-le-MOST_BYTES}

pub returns-then-has_place : goal.returns-then-has_place
returns-then-has_place c =
    elim c.if-path-le-MOST_BYTES.branch [
      | then-path-le-MOST_BYTES w ↦
          registrable_told c.args.blocks c.args.paths.now c.args.path.now w.has_place.result c.has_references.result
          (search rules) (search rules) (search rules) (search rules) w.has_place.ensures c.has_references.ensures
      | else-path-le-MOST_BYTES w ↦ search rules
    ]
