use Rattle.std.proofs.Common.{refl}
use Rattle.std.proofs.lemmas.Result.{err_from_is_err_and}
use Rattle.journal.proofs.Changes.{listing_fails, label_fails, label_stands}
use Rattle.journal.proofs.appending.change_halves.Goals as goal

pub returns-in_err-count-clause-law : goal.returns-in_err-count-clause-law
returns-in_err-count-clause-law g c =
    let p = err_from_is_err_and c.from_residual.result c.from_residual.ensures.1 in
    rw (p.1, p.2) (listing_fails _ _ _ _ refl c.other.ensures _ _ c.in_err-count.ensures.law)

pub returns-in_err-put_label-clause-law : goal.returns-in_err-put_label-clause-law
returns-in_err-put_label-clause-law g c =
    let p = err_from_is_err_and c.from_residual-in_err-put_label.result c.from_residual-in_err-put_label.ensures.1 in
    let count = c.in_ok-count.ensures in
    rw (p.1, p.2) (label_fails _ _ _ _ refl c.other.ensures _ _ _ count.few count.law _ (rw c.blocks-2.ensures at c.in_err-put_label.ensures))

pub returns-clause-law : goal.returns-clause-law
returns-clause-law g c =
    let count = c.in_ok-count.ensures in
    label_stands _ _ _ _ refl c.other.ensures _ _ _ count.few count.law _ _ refl refl refl (rw c.blocks-2.ensures at c.in_ok-put_label.ensures)
