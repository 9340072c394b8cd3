use Rattle.std.proofs.Common.{length, vec_items, ap, arith, rules, tests}
use Rattle.std.proofs.lemmas.Iterator.{YieldsList-from_map, YieldsList-from_slice}
use Rattle.std.proofs.lemmas.Iterator.Consumers.{fits_from_yields_list, sum_from_yields_List}
use Rattle.catalogue.specs.Whole.{catalogue_of}
use Rattle.queries.proofs.Listings.{listed_len, listing_long, short}
use Rattle.queries.proofs.checkpoint.listing_len.Goals as goal

pub sum-of_profiles-requires-clause-fits : goal.sum-of_profiles-requires-clause-fits
sum-of_profiles-requires-clause-fits c =
    let cat = c.args.catalogue.now in
    let few = short cat.blocks (catalogue_of cat) cat.sound in
    let long = listing_long (vec_items cat.paths) cat.profiles in
    fits_from_yields_list c.map.result _ (YieldsList-from_map _ listed_len (YieldsList-from_slice cat.profiles cc) c.map.ensures.closure (λ x r q k. search (rules, tests))) (omega (arith, few, long))

pub returns : goal.returns
returns c =
    let cat = c.args.catalogue.now in
    let few = short cat.blocks (catalogue_of cat) cat.sound in
    let long = listing_long (vec_items cat.paths) cat.profiles in
    let lent = ap length c.paths.ensures in
    let total = sum_from_yields_List c.map.result c.sum-of_profiles.result c.sum-of_profiles.ensures.ran (YieldsList-from_map _ listed_len (YieldsList-from_slice cat.profiles (cc)) c.map.ensures.closure (λ x r q k. search (rules, tests))) in
    record { value = omega arith; bound = omega arith }

pub overflow_add-result : goal.overflow_add-result
overflow_add-result c =
    let cat = c.args.catalogue.now in
    let few = short cat.blocks (catalogue_of cat) cat.sound in
    let long = listing_long (vec_items cat.paths) cat.profiles in
    let lent = ap length c.paths.ensures in
    let total = sum_from_yields_List c.map.result c.sum-of_profiles.result c.sum-of_profiles.ensures.ran (YieldsList-from_map _ listed_len (YieldsList-from_slice cat.profiles (cc)) c.map.ensures.closure (λ x r q k. search (rules, tests))) in
    omega arith
