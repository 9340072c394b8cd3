use Rattle.std.proofs.Common.{subst}
use Rattle.queries.specs.Newest.{Newest}
use Rattle.queries.proofs.Numbers.{generations_of, newest_of_all, none_past}
use Rattle.queries.proofs.rollback.newest.Goals as goal

pub returns-in_err-profile : goal.returns-in_err-profile
returns-in_err-profile c = rw c.from_residual.ensures (none_past c.args.catalogue.now c.args.profile c.in_err-profile.ensures (λ k. Unit {0}))

pub returns : goal.returns
returns c =
    let r = c.greatest_number.result in
    let gens = c.generations-generations.result.now in
    let known = generations_of c.args.catalogue.now c.args.profile c.in_ok-profile.field-0.now c.in_ok-profile.ensures.0 c.in_ok-profile.ensures.1 gens c.generations-generations.ensures in
    subst (λ all. Newest all r) known.0 (newest_of_all gens known.1 c.below.result r c.greatest_number.ensures c.below.ensures)
