use Rattle.ledger.proofs.Opens.{open_done, reached_sound}
use Rattle.ledger.proofs.every_open_is_done.Goals as goal

pub returns : goal.returns
returns c n l m answer reached step = open_done l m answer (reached_sound n l reached) step
