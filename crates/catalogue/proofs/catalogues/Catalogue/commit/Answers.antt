use Rattle.std.proofs.Common.{get_or, refl, ap}
use Rattle.model.specs.Plain as plain
use Rattle.catalogue.proofs.Applies.{committed, has_room, still_whole}
use Rattle.catalogue.proofs.catalogues.Catalogue.commit.Goals as goal

pub invariant_of-self : goal.invariant_of-self
invariant_of-self c =
    let cat = c.args.self.now in
    let f = c.add.new.self in
    let x = get_or cat.profiles c.args.profile c.index-self-profile.result in
    let at = ap (get_or cat.profiles c.args.profile) c.index-self-profile.is in
    let whole = still_whole cat c.args.profile f x at (plain.commit c.args.profile c.args.number c.args.hash.now.bytes) c.requires (committed cat c.args.profile f x at c.args.number c.args.hash.now.bytes c.requires c.add.ensures) in record { room = cat.room; three = whole.0; sound = whole.1 }

pub returns : goal.returns
returns c =
    let cat = c.args.self.now in
    let f = c.add.new.self in
    let x = get_or cat.profiles c.args.profile c.index-self-profile.result in
    let at = ap (get_or cat.profiles c.args.profile) c.index-self-profile.is in
    (committed cat c.args.profile f x at c.args.number c.args.hash.now.bytes c.requires c.add.ensures, refl)

pub add-requires : goal.add-requires
add-requires c =
    let cat = c.args.self.now in
    let x = get_or cat.profiles c.args.profile c.index-self-profile.result in
    let at = ap (get_or cat.profiles c.args.profile) c.index-self-profile.is in
    has_room cat c.args.profile x x at c.args.number c.args.hash.now.bytes c.requires
