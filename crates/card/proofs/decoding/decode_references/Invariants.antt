use Rattle.std.proofs.Common.{◌≡◌, map, take}
use Rattle.records.specs.View.{bytes_of, listed}
use Rattle.card.proofs.decoding.decode_references.Given as goal

abbrev pub invariant-loop-bytes : goal.invariant-loop-bytes
invariant-loop-bytes l = map bytes_of (listed l.refs) ≡ take l.bytes-index l.bytes-items
