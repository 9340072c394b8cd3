use Rattle.std.proofs.Common.{[], ◌∷◌, ◌++◌, map, vec_items, ap, ◌∙◌}
use Rattle.std.proofs.lemmas.List.{map_push}
use Rattle.records.specs.View.{generation_of}
use Rattle.catalogue.specs.View.{profile_from}
use Rattle.catalogue.proofs.profile.Profile.add.Goals as goal

pub returns : goal.returns
returns c =
    let made = c.args.generation in
    let before = vec_items c.args.self.now.generations in
    ap (λ gens. profile_from gens made.number)
    (ap (map generation_of) {y = before ++ (made ∷ [])} c.push_reserved.ensures.items ∙ map_push generation_of before made)
