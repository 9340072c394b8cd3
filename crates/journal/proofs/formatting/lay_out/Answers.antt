use Rattle.std.proofs.Common.{refl}
use Rattle.std.proofs.lemmas.Result.{err_from_is_err_and}
use Rattle.journal.proofs.Layouts.{label_fails, laid_out, lowest}
use Rattle.journal.proofs.formatting.lay_out.Goals as goal

pub returns-in_err-put_label : goal.returns-in_err-put_label
returns-in_err-put_label g c =
    let p = err_from_is_err_and c.from_residual-in_err-put_label.result c.from_residual-in_err-put_label.ensures.1 in
    rw (p.1, p.2) (label_fails _ _ _ _ c.in_ok-put.ensures _ _ c.in_ok-clear_halves.ensures _ lowest refl refl refl _ c.in_err-put_label.ensures)

pub returns : goal.returns
returns g c =
    laid_out _ _ (g.D.Disk.means c.put.new.disk) _ c.in_ok-put.ensures (g.D.Disk.means c.clear_halves.new.disk) _ c.in_ok-clear_halves.ensures
    (g.D.Disk.means c.put_label.new.disk) _ refl refl refl _ c.in_ok-put_label.ensures
