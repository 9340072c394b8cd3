use Rattle.std.proofs.Common.{vec_items, refl}
use Rattle.model.specs.Plain.{register}
use Rattle.records.specs.View.{path_of}
use Rattle.catalogue.proofs.Applies.{path_room, view_pushed, whole_paths}
use Rattle.catalogue.proofs.catalogues.Catalogue.register.Goals as goal

pub push_reserved-requires : goal.push_reserved-requires
push_reserved-requires c = path_room c.args.self.now c.args.path.now c.requires

pub invariant_of-self : goal.invariant_of-self
invariant_of-self c =
    let cat = c.args.self.now in
    let p = c.args.path.now in
    let more = c.push_reserved.new.self in
    let whole = whole_paths cat more (register (path_of p)) c.requires
    (view_pushed (vec_items cat.paths) cat.profiles p (vec_items more) c.push_reserved.ensures.items) c.push_reserved.ensures.capacity in
    record { room = whole.0; three = whole.1; sound = whole.2 }

pub returns : goal.returns
returns c =
    let cat = c.args.self.now in
    (view_pushed (vec_items cat.paths) cat.profiles c.args.path.now (vec_items c.push_reserved.new.self) c.push_reserved.ensures.items, refl)
