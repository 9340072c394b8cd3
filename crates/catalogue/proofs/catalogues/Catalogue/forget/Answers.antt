use Rattle.std.proofs.Common.{get_or, refl, ap}
use Rattle.model.specs.Plain as plain
use Rattle.catalogue.proofs.Applies.{forgotten, still_whole}
use Rattle.catalogue.proofs.catalogues.Catalogue.forget.Goals as goal

pub invariant_of-self : goal.invariant_of-self
invariant_of-self c =
    let cat = c.args.self.now in
    let f = c.forget.new.self in
    let x = get_or cat.profiles c.args.profile c.index-self-profile.result in
    let at = ap (get_or cat.profiles c.args.profile) c.index-self-profile.is in
    let whole = still_whole cat c.args.profile f x at (plain.forget c.args.profile c.args.number) c.requires (forgotten cat c.args.profile f x at c.args.number c.requires c.forget.ensures.gone c.forget.ensures.same) in record { room = cat.room; three = whole.0; sound = whole.1 }

pub returns : goal.returns
returns c =
    let cat = c.args.self.now in
    let f = c.forget.new.self in
    let x = get_or cat.profiles c.args.profile c.index-self-profile.result in
    let at = ap (get_or cat.profiles c.args.profile) c.index-self-profile.is in
    (forgotten cat c.args.profile f x at c.args.number c.requires c.forget.ensures.gone c.forget.ensures.same, refl)
