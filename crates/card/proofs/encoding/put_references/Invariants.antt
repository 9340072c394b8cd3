use Rattle.card.proofs.Referring.{Referring}
use Rattle.card.proofs.encoding.put_references.Given as goal

abbrev pub invariant-loop-k : goal.invariant-loop-k
invariant-loop-k l = Referring l.hashes l.initial.block l.k l.block
