use Rattle.std.proofs.Common.{sym, ap, ◌∙◌}
use Rattle.std.proofs.lemmas.List.{get_or-map}
use Rattle.records.specs.View.{bytes_of}
use Rattle.card.proofs.Referring.{referring_more}
use Rattle.card.proofs.encoding.put_references.Goals as goal

pub loop-k-preserved : goal.loop-k-preserved
loop-k-preserved c =
    let hashes = c.args.hashes.now in
    let hash = c.index-hashes-k.result in
    let k = c.loop-k.k in
    referring_more hashes c.args.block.now c.loop-k.block c.put.new.block hash.bytes k hash.whole
    (ap bytes_of c.index-hashes-k.is ∙ sym (get_or-map bytes_of hashes k hash _ c.loop-k-test.true))
    c.loop-k.invariant
    c.put.ensures
