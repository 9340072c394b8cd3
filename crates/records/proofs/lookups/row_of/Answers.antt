use Rattle.std.proofs.Common.{map, rules, tests}
use Rattle.std.specs.Str.{bytes_eq}
use Rattle.std.proofs.lemmas.Iterator.{YieldsList-from_slice}
use Rattle.std.proofs.lemmas.Iterator.Search.{position_from_yields_List}
use Rattle.records.specs.Find.{RowOf}
use Rattle.records.specs.View.{path_of}
use Rattle.records.proofs.Finds.{mapped_finds}
use Rattle.records.proofs.lookups.row_of.Goals as goal

pub returns : goal.returns
returns c =
    let h = c.args.hash.now.bytes in
    let known : RowOf (map path_of c.args.paths.now) h c.position.result =
    mapped_finds path_of (λ p. bytes_eq p.hash h) c.args.paths.now c.position.result
    (position_from_yields_List (λ p. bytes_eq p.hash.bytes h) _ _ c.position.result c.position.ensures.ran (YieldsList-from_slice c.args.paths.now cc) (λ x b q k. search (rules, tests)))
    in
    search (rules, known)
