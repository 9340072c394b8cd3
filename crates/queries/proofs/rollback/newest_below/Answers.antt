use Rattle.std.proofs.Common.{◌<◌, subst}
use Rattle.catalogue.specs.Whole.{catalogue_of}
use Rattle.model.specs.Fits.{profile}
use Rattle.queries.specs.Newest.{NewestBelow, number_at}
use Rattle.queries.proofs.Numbers.{generations_of, newest_of_some, none_past}
use Rattle.queries.proofs.rollback.newest_below.Goals as goal

pub returns-in_err-profile : goal.returns-in_err-profile
returns-in_err-profile c =
    let gens = (profile (catalogue_of c.args.catalogue.now) c.args.profile).generations in
    rw c.from_residual.ensures (none_past c.args.catalogue.now c.args.profile c.in_err-profile.ensures (λ k. number_at gens k < c.args.number))

pub returns : goal.returns
returns c =
    let r = c.greatest_number.result in
    let gens = c.generations-generations.result.now in
    let known = generations_of c.args.catalogue.now c.args.profile c.in_ok-profile.field-0.now c.in_ok-profile.ensures.0 c.in_ok-profile.ensures.1 gens c.generations-generations.ensures in
    subst (λ all. NewestBelow all c.args.number r) known.0
    (newest_of_some gens known.1 c.places_below.result r c.greatest_number.ensures c.args.number c.places_below.ensures)
