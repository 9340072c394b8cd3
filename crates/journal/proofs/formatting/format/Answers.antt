use Rattle.std.proofs.Common.{◌∙◌}
use Rattle.std.proofs.lemmas.Result.{err_from_is_err_and}
use Rattle.journal.proofs.Layouts.{format_fails}
use Rattle.journal.proofs.formatting.format.Goals as goal

pub returns-in_err-lay_out : goal.returns-in_err-lay_out
returns-in_err-lay_out g c =
    let p = err_from_is_err_and c.from_residual-in_err-lay_out.result c.from_residual-in_err-lay_out.ensures.1 in
    let size = rw c.in_ok-blocks.ensures.ok_part at c.card_size.ensures in
    rw (p.1, p.2) (format_fails _ _ _ _ c.restart.ensures (size.0 ∙ c.size.ensures.value) size.1 size.2 c.in_err-lay_out.field-0.0 c.in_err-lay_out.ensures)
