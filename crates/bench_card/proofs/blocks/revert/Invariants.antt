use Rattle.bench_card.specs.Card.{Reverted}
use Rattle.bench_card.proofs.blocks.revert.Given as goal

abbrev pub invariant-loop-b : goal.invariant-loop-b
invariant-loop-b l = Reverted l.n l.kept l.b l.initial.row l.row
