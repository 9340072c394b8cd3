use Rattle.std.proofs.Common.{sym, subst}
use Rattle.card.specs.View.{Decodes}
use Rattle.card.proofs.KindBytes.{no_kind}
use Rattle.card.proofs.decoding.decode_block.Goals as goal

pub returns-in_err-ok : goal.returns-in_err-ok
returns-in_err-ok c =
    let block = c.args.block.now in
    subst (Decodes block) (sym c.from_residual.ensures)
    (λ e says readable. no_kind block _ c.try_from.result c.split-kind.ensures.kind c.try_from.ensures c.in_err-ok.ensures.value e says)
