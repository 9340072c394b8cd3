use Rattle.std.proofs.Common.{arith, ◌∙◌}
use Rattle.card.specs.Fields.{back_field, number_field}
use Rattle.card.proofs.Numbers.{wrote_four, wrote_eight}
use Rattle.card.proofs.Writes.{below_both, read_below}
use Rattle.card.proofs.trailer.put_trailer.Goals as goal

pub returns-clause-number : goal.returns-clause-number
returns-clause-number c =
    let one = c.put.new.block in
    let two = c.put-2.new.block in
    let exit = c.put-3.new.block in
    read_below number_field one exit 248 (omega arith) (below_both one two exit 248 252 (omega arith) c.put-2.ensures.kept.below c.put-3.ensures.kept.below)
    ∙ (wrote_eight 240 c.args.number _ _ _ c.ranges.number.fits c.to_le_bytes.ensures c.put.ensures).here

pub returns-clause-back : goal.returns-clause-back
returns-clause-back c =
    read_below back_field c.put-2.new.block c.put-3.new.block 252 (omega arith) c.put-3.ensures.kept.below
    ∙ (wrote_four 248 c.args.back _ _ _ c.ranges.back.fits c.to_le_bytes-2.ensures c.put-2.ensures).here

pub returns-clause-below : goal.returns-clause-below
returns-clause-below c =
    let one = c.put.new.block in
    let two = c.put-2.new.block in
    let exit = c.put-3.new.block in
    below_both c.args.block.now one exit 240 248 (omega arith) c.put.ensures.kept.below
    (below_both one two exit 248 252 (omega arith) c.put-2.ensures.kept.below c.put-3.ensures.kept.below)
