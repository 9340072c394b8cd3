use Rattle.std.proofs.Common.{◌-◌, map, length, vec_items, sym, ap, ◌∙◌}
use Rattle.std.proofs.lemmas.Bool.{ltb-false, ltb-true}
use Rattle.std.specs.List.{slice_get}
use Rattle.model.specs.Listing.{profiles_listing}
use Rattle.catalogue.specs.View.{profile_of}
use Rattle.queries.proofs.Listings.{past_paths, path_at}
use Rattle.queries.proofs.checkpoint.listing_entry.Goals as goal

pub returns-in-Some : goal.returns-in-Some
returns-in-Some c =
    let cat = c.args.catalogue.now in
    path_at c.paths-paths.result.now (vec_items cat.paths) (profiles_listing 0 (map profile_of cat.profiles)) c.paths-paths.ensures c.args.place c.in-Some.path.now (ltb-true c.args.place (length c.paths-paths.result.now) (sym c.in-Some.ensures.lookup.0)) c.in-Some.ensures.lookup.1

pub returns-in-None : goal.returns-in-None
returns-in-None c =
    let cat = c.args.catalogue.now in
    let slice = c.paths-paths.result.now in
    c.profiles_entry.ensures
    ∙ ap (λ fs. slice_get (profiles_listing 0 (map profile_of fs)) (c.args.place - length slice)) c.profiles.ensures
    ∙ past_paths slice (vec_items cat.paths) (profiles_listing 0 (map profile_of cat.profiles)) c.paths-paths.ensures c.args.place (ltb-false c.args.place (length slice) (sym c.in-None.ensures.lookup.0))
