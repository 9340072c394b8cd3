use Rattle.std.proofs.Common.{eqb, vec_items, refl, arith}
use Rattle.model.specs.Plain.{no_generation}
use Rattle.records.specs.View.{generation_of}
use Rattle.catalogue.proofs.Changes.{taken_place, taken_view, taken_still}
use Rattle.catalogue.proofs.profile.Profile.forget.Goals as goal

pub remove-requires : goal.remove-requires
remove-requires c =
    let gens = c.args.self.now.generations in
    omega (arith, gens.ok.0, taken_place generation_of (λ g. eqb g.number c.args.number) no_generation c.as_slice.result.now (vec_items gens) c.as_slice.ensures.value c.in-Some.place c.in-Some.ensures)

pub returns-in-Some : goal.returns-in-Some
returns-in-Some c = record {
  gone =
      taken_view generation_of (λ g. eqb g.number c.args.number) no_generation c.as_slice.result.now (vec_items c.args.self.now.generations) c.as_slice.ensures.value
      (vec_items c.remove.new.self) c.in-Some.place c.in-Some.ensures c.remove.ensures.items;
  same = refl;
}

pub returns-in_default : goal.returns-in_default
returns-in_default c = record {
  gone =
      taken_still generation_of (λ g. eqb g.number c.args.number) no_generation c.as_slice.result.now (vec_items c.args.self.now.generations) c.as_slice.ensures.value
      c.in_default.ensures;
  same = refl;
}
