use Rattle.std.proofs.Common.{ltb, rules, tests}
use Rattle.std.proofs.lemmas.Iterator.{YieldsList-from_slice}
use Rattle.std.proofs.lemmas.Iterator.Search.{all_from_yields_List}
use Rattle.records.proofs.Commits.{above_decided}
use Rattle.records.proofs.committing.is_above.Goals as goal

pub returns : goal.returns
returns c =
    above_decided c.args.generations.now c.args.number c.all.result
    (all_from_yields_List (λ g. ltb g.number c.args.number) _ _ c.all.result c.all.ensures.ran (YieldsList-from_slice c.args.generations.now cc) (λ x b q k. search (rules, tests)))
