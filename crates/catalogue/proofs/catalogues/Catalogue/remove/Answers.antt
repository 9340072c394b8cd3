use Rattle.std.proofs.Common.{vec_items, refl, arith}
use Rattle.std.specs.Str.{bytes_eq}
use Rattle.model.specs.Plain as plain
use Rattle.records.specs.View.{path_of}
use Rattle.catalogue.proofs.Applies.{removed_at, whole_paths}
use Rattle.catalogue.proofs.Changes.{taken_place}
use Rattle.catalogue.proofs.catalogues.Catalogue.remove.Goals as goal

pub remove-requires : goal.remove-requires
remove-requires c =
    let paths = c.args.self.now.paths in
    omega (arith, paths.ok.0, taken_place path_of (λ q. bytes_eq q.hash c.args.hash.now.bytes) plain.no_path c.as_slice.result.now (vec_items paths) c.as_slice.ensures.value c.in-Some.row c.in-Some.ensures)

pub invariant_of-self : goal.invariant_of-self
invariant_of-self c =
    let cat = c.args.self.now in
    let left = c.remove.new.self in
    let h = c.args.hash.now.bytes in
    let whole = whole_paths cat left (plain.remove h) c.requires
    (removed_at cat h c.as_slice.result.now (vec_items left) c.in-Some.row c.as_slice.ensures.value c.in-Some.ensures c.remove.ensures.items) c.remove.ensures.capacity in
    record { room = whole.0; three = whole.1; sound = whole.2 }

pub returns-in-Some : goal.returns-in-Some
returns-in-Some c =
    let cat = c.args.self.now in
    (removed_at cat c.args.hash.now.bytes c.as_slice.result.now (vec_items c.remove.new.self) c.in-Some.row c.as_slice.ensures.value c.in-Some.ensures c.remove.ensures.items, refl)
