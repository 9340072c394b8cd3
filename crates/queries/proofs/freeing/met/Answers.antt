use Rattle.std.proofs.Common.{◌≡◌, true, false, refl, sym, ◌∙◌, subst, rules, tests}
use Rattle.std.proofs.lemmas.Iterator.{YieldsList-from_map, YieldsList-from_slice, first_from_find}
use Rattle.std.proofs.lemmas.Iterator.Consumers.{YieldsList-from_copied}
use Rattle.records.specs.Runs.{meets, span_of}
use Rattle.queries.specs.Room.{Met}
use Rattle.queries.proofs.Rooms.{met_after, met_before, met_first, path_run, run_back, taken_is}
use Rattle.queries.proofs.freeing.met.Goals as goal

pub returns-then-is_some : goal.returns-then-is_some
returns-then-is_some c =
    let paths = c.args.paths.now in
    let building = c.args.building.now in
    let s = span_of c.args.run in
    subst (λ taken. Met taken s c.find-of_paths.result) (taken_is paths building)
    (met_before _ building s c.find-of_paths.result (sym c.is_some.ensures ∙ c.if-is_some.true)
    (met_first _ s c.find-of_paths.result
    (first_from_find _ _ c.find-of_paths.result (λ t. meets s (span_of t) ≡ true) (λ t. meets s (span_of t) ≡ false) c.find-of_paths.ensures.ran
    (YieldsList-from_map _ path_run (YieldsList-from_slice paths (cc)) (cc) (λ x r q k. (refl, run_back r _ (search (rules, tests)))))
    (λ x q k. search (rules, tests)) (λ x q k. search (rules, tests)))))

pub returns : goal.returns
returns c =
    let paths = c.args.paths.now in
    let building = c.args.building.now in
    let s = span_of c.args.run in
    subst (λ taken. Met taken s c.find.result) (taken_is paths building)
    (met_after _ building s c.find-of_paths.result c.find.result (sym c.is_some.ensures ∙ c.if-is_some.false)
    (met_first _ s c.find-of_paths.result
    (first_from_find _ _ c.find-of_paths.result (λ t. meets s (span_of t) ≡ true) (λ t. meets s (span_of t) ≡ false) c.find-of_paths.ensures.ran
    (YieldsList-from_map _ path_run (YieldsList-from_slice paths (cc)) (cc) (λ x r q k. (refl, run_back r _ (search (rules, tests)))))
    (λ x q k. search (rules, tests)) (λ x q k. search (rules, tests))))
    (met_first building s c.find.result
    (first_from_find _ _ c.find.result (λ t. meets s (span_of t) ≡ true) (λ t. meets s (span_of t) ≡ false) c.find.ensures.ran
    (YieldsList-from_copied (YieldsList-from_slice building (cc)))
    (λ x q k. search (rules, tests)) (λ x q k. search (rules, tests)))))
