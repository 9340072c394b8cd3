use Rattle.std.proofs.Common.{not, refl, subst, rules, tests}
use Rattle.std.proofs.lemmas.Iterator.{YieldsList-from_slice}
use Rattle.std.proofs.lemmas.Iterator.Search.{any_from_yields_List}
use Rattle.model.specs.Fits.{InData}
use Rattle.model.specs.Plain.{run}
use Rattle.records.specs.Runs.{meets, span_of}
use Rattle.records.specs.View.{path_of}
use Rattle.records.proofs.Apart.{apart_decided, decides_both}
use Rattle.records.proofs.registering.has_place.Goals as goal

pub returns-then-is_placed : goal.returns-then-is_placed
returns-then-is_placed c =
    let is = c.run-run.ensures in
    let mine = span_of c.run-run.result in
    decides_both (not c.any.result) (subst (InData c.args.blocks) is (c.if-is_placed.ensures.0 refl))
    (apart_decided (path_of c.args.path.now) mine c.args.paths.now c.any.result is
    (any_from_yields_List (λ q. meets mine (run (path_of q))) _ _ c.any.result c.any.ensures.ran (YieldsList-from_slice c.args.paths.now cc) (λ x b q k. search (rules, tests))))
