use Rattle.std.proofs.Common.{arith}
use Rattle.card.proofs.Labelling.{label_back, label_cases}
use Rattle.card.proofs.Numbers.{got_four, got_eight}
use Rattle.card.proofs.label.decode_label.Goals as goal

pub returns : goal.returns
returns c =
    let block = c.args.block.now in
    let count = got_four 236 _ block _ (omega arith) c.bytes_at.ensures c.from_le_bytes.ensures in
    let first = got_eight 240 _ block _ (omega arith) c.bytes_at-2.ensures c.from_le_bytes-2.ensures in
    let start = c.read_ending.ensures.back in
    let marked = c.is_label.ensures.0 c.if-not-is_label.false in
    record {
      cases = label_cases _ block _ count first start marked c.is_in_range.result c.is_in_range.ensures c.then_some.result c.then_some.ensures;
      back = label_back _ block _ count first start marked c.is_in_range.result c.is_in_range.ensures c.then_some.result c.then_some.ensures;
    }
