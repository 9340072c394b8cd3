use Rattle.std.proofs.Common.{arith}
use Rattle.bench_card.proofs.Cards.{write_told}
use Rattle.bench_card.proofs.BenchCardDisk.write.Goals as goal

pub returns-clause-meaning : goal.returns-clause-meaning
returns-clause-meaning c =
    let admitted = c.in_ok-admit.ensures in
    write_told _ _ c.args.from.now (omega arith) admitted.1 _ _ _ admitted.0 c.in_ok-write_block.ensures.1 c.spend.ensures.after _ c.spend.ensures.answer
