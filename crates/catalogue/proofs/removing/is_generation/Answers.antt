use Rattle.std.proofs.Common.{◌∙◌, rules, tests}
use Rattle.std.proofs.lemmas.Iterator.{YieldsList-from_slice}
use Rattle.std.proofs.lemmas.Iterator.Search.{any_from_yields_List}
use Rattle.model.specs.Fits.{names_path}
use Rattle.catalogue.specs.View.{profile_of}
use Rattle.records.proofs.Finds.{mapped_any}
use Rattle.catalogue.proofs.removing.is_generation.Goals as goal

pub returns : goal.returns
returns c =
    let h = c.args.hash.now.bytes in
    any_from_yields_List (λ f. names_path h (profile_of f).generations) _ _ c.any.result c.any.ensures.ran (YieldsList-from_slice c.args.profiles.now cc) (λ x b q k. search (rules, tests))
    ∙ mapped_any profile_of (λ f. names_path h f.generations) c.args.profiles.now
