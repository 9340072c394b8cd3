use Rattle.std.proofs.Common.{vec_items, refl, arith}
use Rattle.catalogue.proofs.Applies.{sound_new, three_made, view_nothing}
use Rattle.catalogue.proofs.catalogues.Catalogue.clear.Goals as goal

pub invariant_of-self : goal.invariant_of-self
invariant_of-self c =
    let fs = c.clear_profiles.new.profiles in
    let ps = c.clear.new.self in
    let empty = c.clear_profiles.ensures in record {
      room = omega (arith, c.clear.ensures.capacity, c.args.self.now.room);
      three = three_made fs empty;
      sound = sound_new c.args.blocks _ (view_nothing (vec_items ps) fs c.clear.ensures.items empty);
    }

pub returns : goal.returns
returns c = (view_nothing (vec_items c.clear.new.self) c.clear_profiles.new.profiles c.clear.ensures.items c.clear_profiles.ensures, refl)
