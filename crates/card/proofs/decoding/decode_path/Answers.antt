use Rattle.std.proofs.Common.{arith, sym, ap, ◌∙◌}
use Rattle.naming.specs.Digits.{value}
use Rattle.card.proofs.Numbers.{got_four}
use Rattle.card.proofs.Reading.{after_kind}
use Rattle.card.proofs.decoding.decode_path.Goals as goal

pub returns : goal.returns
returns c block is =
    let rest = c.args.rest.now in
    let name = c.in_ok-name.ensures block is in
    let refs = c.in_ok-refs.ensures block is in
    record {
      hash = sym (c.new.ensures ∙ c.bytes_at.ensures ∙ after_kind block rest is 0 20);
      name_length = name.long;
      name = name.text;
      size =
          ap (value 256) (sym (after_kind block rest is 45 4)) ∙ sym (got_four 45 _ rest _ (omega arith) c.bytes_at-2.ensures c.from_le_bytes.ensures);
      first_block =
          ap (value 256) (sym (after_kind block rest is 49 4)) ∙ sym (got_four 49 _ rest _ (omega arith) c.bytes_at-3.ensures c.from_le_bytes-2.ensures);
      reference_count = refs.count;
      references = refs.each;
    }
