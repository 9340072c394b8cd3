use Rattle.std.proofs.Common.{◌≡◌, length, sym, ap, arith}
use Rattle.std.proofs.lemmas.List.{length-map, length-take-le}
use Rattle.records.specs.View.{bytes_of, listed}
use Rattle.card.proofs.Reading.{byte_after_kind, not_pushed, references_said}
use Rattle.card.proofs.decoding.decode_references.Goals as goal

pub returns : goal.returns
returns c block is =
    let found = c.in_ok-bytes-items.ensures.lookup.0 in
    let chunks = c.as_chunks.ensures in
    references_said block c.args.rest.now is (omega arith) _ _ _ c.loop-bytes.bytes-index chunks.front found.2 (omega (arith, found.3)) found.1
    chunks.front_len (omega arith) c.loop-bytes.invariant

pub returns-in_err-ok : goal.returns-in_err-ok
returns-in_err-ok c block is =
    let found = c.in_ok-bytes-items.ensures.lookup.0 in
    let full : length (listed c.loop-bytes.refs) ≡ 8 = not_pushed _ _ c.push.result _ c.push.ensures (sym c.in_err-ok.ensures.variant) in
    let so_far = ap length c.loop-bytes.invariant in
    let long = length-map (listed c.loop-bytes.refs) bytes_of in
    rw c.from_residual-in_err-ok.ensures (omega (arith, byte_after_kind block c.args.rest.now is 53 (omega arith), length-take-le c.loop-bytes.bytes-index c.in_ok-bytes-items.bytes-items.now (omega arith), found.1))
