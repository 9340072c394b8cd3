use Rattle.std.proofs.Common.{vec_items}
use Rattle.catalogue.proofs.Applies.{sound_new, three_made, view_nothing}
use Rattle.catalogue.proofs.catalogues.Catalogue.new.Goals as goal

pub invariant_of-result : goal.invariant_of-result
invariant_of-result c =
    let paths = c.in_ok-paths in
    let fs = c.in_ok-profiles in record {
      room = paths.ensures.capacity;
      three = three_made fs.profiles fs.ensures;
      sound = sound_new c.args.blocks _ (view_nothing (vec_items paths.paths) fs.profiles paths.ensures.items fs.ensures);
    }
