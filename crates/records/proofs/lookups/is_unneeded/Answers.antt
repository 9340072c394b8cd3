use Rattle.std.proofs.Common.{not, ◌&&◌, rules, tests}
use Rattle.std.specs.Str.{bytes_eq}
use Rattle.std.proofs.lemmas.Iterator.{YieldsList-from_slice}
use Rattle.std.proofs.lemmas.Iterator.Search.{any_from_yields_List}
use Rattle.model.specs.Fits.{refers}
use Rattle.records.specs.View.{path_of}
use Rattle.records.proofs.Needs.{unneeded_decided}
use Rattle.records.proofs.lookups.is_unneeded.Goals as goal

pub returns : goal.returns
returns c =
    let h = c.args.hash.now.bytes in
    unneeded_decided h c.args.paths.now c.any.result
    (any_from_yields_List (λ p. refers (path_of p) h && not (bytes_eq p.hash.bytes h)) _ _ c.any.result c.any.ensures.ran (YieldsList-from_slice c.args.paths.now cc) (λ x b q k. search (rules, tests)))
