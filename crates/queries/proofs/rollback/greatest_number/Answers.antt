use Rattle.std.proofs.Common.{refl}
use Rattle.order.specs.Rows.{Holds}
use Rattle.queries.proofs.Numbers.{number_some}
use Rattle.queries.proofs.rollback.greatest_number.Goals as goal

pub returns : goal.returns
returns c =
    number_some c.args.generations.now (Holds c.args.places) c.in_ok-place.place _ c.index-generations-place.result refl c.in_ok-place.ensures
