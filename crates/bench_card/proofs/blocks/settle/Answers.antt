use Rattle.std.proofs.Common.{arith}
use Rattle.bench_card.proofs.Copies.{settled_laid}
use Rattle.bench_card.proofs.blocks.settle.Goals as goal

pub returns : goal.returns
returns c = settled_laid c.args.n _ _ _ c.requires (omega arith) c.copy_within.ensures.after
