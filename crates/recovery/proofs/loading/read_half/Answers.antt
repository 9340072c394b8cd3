use Rattle.std.proofs.Common.{refl}
use Rattle.std.proofs.lemmas.Result.{err_from_is_err_and}
use Rattle.recovery.proofs.Readings.{half_fails, half_short, half_whole, side_there}
use Rattle.recovery.proofs.loading.read_half.Goals as goal

pub unwrap-requires : goal.unwrap-requires
unwrap-requires g c = side_there _ _ c.requires.start c.starting_at.ensures

pub returns-in_err-used : goal.returns-in_err-used
returns-in_err-used g c =
    let p = err_from_is_err_and c.from_residual.result c.from_residual.ensures.1 in
    let start = rw c.unwrap.ensures at c.starting_at.ensures in
    rw (p.1, p.2) (half_fails _ _ _ c.args.catalogue.now c.read_entries.new.catalogue refl start _ c.in_err-used.ensures)

pub returns-then-used-label : goal.returns-then-used-label
returns-then-used-label g c =
    let start = rw c.unwrap.ensures at c.starting_at.ensures in
    let slot = rw c.unwrap-then-used-label.ensures at c.slot.ensures in
    half_short _ _ _ c.args.catalogue.now c.read_entries.new.catalogue refl start c.in_ok-used.used _ slot.1.block c.if-used-label.true c.requires.count c.in_ok-used.ensures

pub returns : goal.returns
returns g c =
    let start = rw c.unwrap.ensures at c.starting_at.ensures in
    half_whole _ _ _ c.args.catalogue.now c.read_entries.new.catalogue refl start c.in_ok-used.used c.if-used-label.false c.in_ok-used.ensures
