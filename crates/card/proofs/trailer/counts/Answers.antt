use Rattle.std.proofs.Common.{arith, sym, ◌∙◌, eq-eqb, eqb-true}
use Rattle.std.proofs.lemmas.Bool.Decides.{Decides-eqb}
use Rattle.std.proofs.lemmas.Slice.Eq.{slice_eq-Decides}
use Rattle.card.proofs.Numbers.{got_eight}
use Rattle.card.proofs.trailer.counts.Goals as goal

pub returns-then-end-back : goal.returns-then-end-back
returns-then-end-back c =
    let number = got_eight 240 _ c.args.block.now _ (omega arith) c.bytes_at.ensures c.from_le_bytes.ensures in (
      λ t. record {
        number = sym number ∙ eqb-true _ _ t;
        back = sym c.read_ending-end.ensures.back ∙ c.if-end-back.true.1;
        mark = sym c.read_ending-end.ensures.mark ∙ (slice_eq-Decides Decides-eqb _ _ _ c.eq.ensures).0 c.if-end-back.true.0;
      },
      λ m. eq-eqb _ _ (number ∙ m.number),
    )
