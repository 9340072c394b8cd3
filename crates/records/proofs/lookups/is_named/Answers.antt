use Rattle.std.proofs.Common.{◌∙◌, rules, tests}
use Rattle.std.specs.Str.{bytes_eq}
use Rattle.std.proofs.lemmas.Iterator.{YieldsList-from_slice}
use Rattle.std.proofs.lemmas.Iterator.Search.{any_from_yields_List}
use Rattle.records.specs.View.{generation_of}
use Rattle.records.proofs.Finds.{mapped_any}
use Rattle.records.proofs.lookups.is_named.Goals as goal

pub returns : goal.returns
returns c =
    let h = c.args.hash.now.bytes in
    any_from_yields_List (λ g. bytes_eq g.hash.bytes h) _ _ c.any.result c.any.ensures.ran (YieldsList-from_slice c.args.generations.now cc) (λ x b q k. search (rules, tests))
    ∙ mapped_any generation_of (λ g. bytes_eq g.path h) c.args.generations.now
