use Rattle.card.proofs.Saying.{decoded_back, says_once}
use Rattle.card.proofs.decoding.decode_entry.Goals as goal

pub returns-clause-back : goal.returns-clause-back
returns-clause-back c = decoded_back c.args.block.now _ c.decode_block.ensures

pub returns-clause-once : goal.returns-clause-once
returns-clause-once c = says_once c.args.block.now
