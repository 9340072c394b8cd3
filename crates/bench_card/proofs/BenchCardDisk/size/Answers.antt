use Rattle.bench_card.proofs.Cards.{bench_sound}
use Rattle.bench_card.proofs.BenchCardDisk.size.Goals as goal

pub returns-clause-sound : goal.returns-clause-sound
returns-clause-sound c = bench_sound c.args.self.now.bytes.now _
