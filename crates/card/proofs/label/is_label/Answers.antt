use Rattle.std.proofs.Common.{arith, sym, ◌∙◌, eq-eqb, eqb-true}
use Rattle.std.proofs.lemmas.Bool.Decides.{Decides-eqb}
use Rattle.std.proofs.lemmas.Slice.Eq.{slice_eq-Decides}
use Rattle.card.proofs.Numbers.{got_four}
use Rattle.card.proofs.label.is_label.Goals as goal

pub returns-then-eq : goal.returns-then-eq
returns-then-eq c =
    let blocks = got_four 232 _ c.args.block.now _ (omega arith) c.bytes_at.ensures c.from_le_bytes.ensures in (
      λ t. (
        sym c.read_ending.ensures.mark ∙ (slice_eq-Decides Decides-eqb _ _ _ c.eq.ensures).0 c.if-eq.true,
        sym blocks ∙ eqb-true _ _ t,
      ),
      λ both. eq-eqb _ _ (blocks ∙ both.1),
    )
