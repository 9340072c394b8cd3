use Rattle.std.proofs.Common.{rules, replicate, ◌∙◌, arith}
use Rattle.card.specs.Fields.{began_with_field, card_size_field}
use Rattle.card.specs.View.{LabelFields, half_of}
use Rattle.card.proofs.Numbers.{wrote_four}
use Rattle.card.proofs.Writes.{below_both, read_below, zero_below, zero_blank, zero_less}
use Rattle.card.proofs.label.encode_label.Goals as goal

pub returns : goal.returns
returns c =
    let one = c.put.new.block in
    let two = c.put-2.new.block in
    let exit = c.put_trailer.new.block in
    let size = wrote_four 232 c.args.blocks _ _ _ c.ranges.blocks.fits c.to_le_bytes.ensures c.put.ensures in
    let count = wrote_four 236 c.args.label.now.count _ _ _ (search rules) c.to_le_bytes-2.ensures c.put-2.ensures in
    let end = c.put_trailer.ensures in
    let from_one = below_both one two exit 236 240 (omega arith) count.kept.below end.below in
    let fields : LabelFields c.args.blocks exit (half_of c.args.label.now) = record {
      size = read_below card_size_field one exit 236 (omega arith) from_one ∙ size.here;
      count = read_below began_with_field two exit 240 (omega arith) end.below ∙ count.here;
      first = end.number;
      start = end.back;
      mark = end.mark;
    } in
    record {
      fields = fields;
      labels = λ range. record {
        size = fields.size;
        count = fields.count;
        first = fields.first;
        start = fields.start;
        mark = fields.mark;
        range = range;
      };
      clean =
          zero_below (replicate 256 0) exit 0 232 232 (omega arith)
          (below_both (replicate 256 0) one exit 232 236 (omega arith) size.kept.below from_one)
          (zero_less (replicate 256 0) 0 256 0 232 (omega arith) (omega arith) (zero_blank 256));
    }
