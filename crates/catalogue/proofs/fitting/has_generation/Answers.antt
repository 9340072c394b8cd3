use Rattle.std.proofs.Common.{eqb, map, sym, ap, ◌∙◌}
use Rattle.model.specs.Fits.{has_number}
use Rattle.records.specs.View.{generation_of}
use Rattle.records.proofs.Finds.{found_any}
use Rattle.catalogue.proofs.fitting.has_generation.Goals as goal

pub returns : goal.returns
returns c =
    let gens = map generation_of c.as_slice.result.now in
    c.is_some.ensures ∙ sym (found_any (λ g. eqb g.number c.args.number) gens c.place_of.result c.place_of.ensures) ∙ ap (λ gs. has_number c.args.number (map generation_of gs)) c.as_slice.ensures.value
