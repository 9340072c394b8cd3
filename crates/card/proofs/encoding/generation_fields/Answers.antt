use Rattle.std.proofs.Common.{replicate, arith}
use Rattle.card.proofs.Numbers.{wrote_four}
use Rattle.card.proofs.Writes.{zero_blank, zero_less, zero_past}
use Rattle.card.proofs.encoding.generation_fields.Goals as goal

pub returns-clause-clean : goal.returns-clause-clean
returns-clause-clean c =
    let one = c.put.new.block in
    let two = c.put-2.new.block in
    let number = wrote_four 2 c.args.number _ _ _ c.ranges.number.fits c.to_le_bytes.ensures c.put-3.ensures in
    zero_past two c.put-3.new.block 6 256 2 6 (omega arith) number.kept
    (zero_past one two 6 256 1 2 (omega arith) c.put-2.ensures.kept
    (zero_past (replicate 256 0) one 6 256 0 1 (omega arith) c.put.ensures.kept
    (zero_less (replicate 256 0) 0 256 6 256 (omega arith) (omega arith) (zero_blank 256))))
