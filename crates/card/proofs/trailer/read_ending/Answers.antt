use Rattle.std.proofs.Common.{[], ◌∷◌, get_or, refl, ap, ◌∙◌, arith}
use Rattle.naming.specs.Digits.{value}
use Rattle.card.proofs.Numbers.{read_four}
use Rattle.card.proofs.Writes.{four_at}
use Rattle.card.proofs.trailer.read_ending.Goals as goal

pub returns-clause-back : goal.returns-clause-back
returns-clause-back c =
    let block = c.args.block.now in
    read_four (get_or block 248 0 ∷ (get_or block 249 0 ∷ (get_or block 250 0 ∷ (get_or block 251 0 ∷ [])))) _ refl c.from_le_bytes.ensures
    ∙ ap (value 256) (four_at block 248 248 249 250 251 (omega arith) (omega arith) (omega arith) (omega arith) (omega arith))
