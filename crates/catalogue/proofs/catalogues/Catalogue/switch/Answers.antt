use Rattle.std.proofs.Common.{get_or, refl, ap}
use Rattle.model.specs.Plain as plain
use Rattle.catalogue.proofs.Applies.{still_whole, switched}
use Rattle.catalogue.proofs.catalogues.Catalogue.switch.Goals as goal

pub invariant_of-self : goal.invariant_of-self
invariant_of-self c =
    let cat = c.args.self.now in
    let f = c.choose.new.self in
    let x = get_or cat.profiles c.args.profile c.index-self-profile.result in
    let at = ap (get_or cat.profiles c.args.profile) c.index-self-profile.is in
    let whole = still_whole cat c.args.profile f x at (plain.switch c.args.profile c.args.number) c.requires (switched cat c.args.profile f x at c.args.number c.requires c.choose.ensures) in record { room = cat.room; three = whole.0; sound = whole.1 }

pub returns : goal.returns
returns c =
    let cat = c.args.self.now in
    let f = c.choose.new.self in
    let x = get_or cat.profiles c.args.profile c.index-self-profile.result in
    let at = ap (get_or cat.profiles c.args.profile) c.index-self-profile.is in
    (switched cat c.args.profile f x at c.args.number c.requires c.choose.ensures, refl)
