use Rattle.std.proofs.Common.{refl}
use Rattle.std.proofs.lemmas.Result.{err_from_is_err_and}
use Rattle.journal.proofs.Enterings.{enter_fails, enter_stands}
use Rattle.journal.proofs.appending.enter.Goals as goal

pub returns-in_err-put_entry : goal.returns-in_err-put_entry
returns-in_err-put_entry g c =
    let slot = rw c.unwrap-slot.ensures at c.slot.ensures in
    let p = err_from_is_err_and c.from_residual.result c.from_residual.ensures.1 in
    rw (p.1, p.2) (enter_fails _ _ _ _ c.requires _ (c.in_err-put_entry.ensures _ _ slot.1))

pub returns : goal.returns
returns g c =
    let slot = rw c.unwrap-slot.ensures at c.slot.ensures in enter_stands _ _ _ _ c.requires _ _ refl refl refl (c.in_ok-put_entry.ensures _ _ slot.1)
