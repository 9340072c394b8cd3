use Rattle.std.proofs.Common.{eqb, rules, tests}
use Rattle.std.proofs.lemmas.Iterator.{YieldsList-from_slice}
use Rattle.std.proofs.lemmas.Iterator.Search.{position_from_yields_List}
use Rattle.records.specs.View.{generation_of}
use Rattle.records.proofs.Finds.{mapped_finds}
use Rattle.records.proofs.lookups.place_of.Goals as goal

pub returns : goal.returns
returns c =
    mapped_finds generation_of (λ g. eqb g.number c.args.number) c.args.generations.now c.position.result
    (position_from_yields_List (λ g. eqb g.number c.args.number) _ _ c.position.result c.position.ensures.ran (YieldsList-from_slice c.args.generations.now cc) (λ x b q k. search (rules, tests)))
