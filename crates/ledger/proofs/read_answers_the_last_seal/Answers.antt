use Rattle.ledger.proofs.Opens.{read_sealed, reached_sound}
use Rattle.ledger.proofs.read_answers_the_last_seal.Goals as goal

pub returns : goal.returns
returns c n l m q i room count x reached step = read_sealed l m q i room count x (reached_sound n l reached) step
