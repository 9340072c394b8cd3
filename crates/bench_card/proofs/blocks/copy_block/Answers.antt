use Rattle.std.proofs.Common.{◌∙◌, arith}
use Rattle.bench_card.proofs.Copies.{copied_is_with}
use Rattle.bench_card.proofs.blocks.copy_block.Goals as goal

pub returns : goal.returns
returns c = c.copy_within.ensures.after ∙ copied_is_with _ c.args.from c.args.to _ (omega arith)
