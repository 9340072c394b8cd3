use Rattle.ledger.proofs.Opens.{find_sealed, reached_sound}
use Rattle.ledger.proofs.find_answers_the_last_seal.Goals as goal

pub returns : goal.returns
returns c n l m q p reached step = find_sealed l m q p (reached_sound n l reached) step
