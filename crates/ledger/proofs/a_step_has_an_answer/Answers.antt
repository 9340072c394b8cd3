use Rattle.ledger.proofs.Opens.{reached_sound}
use Rattle.ledger.proofs.Progress.{step_answered}
use Rattle.ledger.proofs.a_step_has_an_answer.Goals as goal

pub returns : goal.returns
returns c n l d reached live runs = step_answered l d (reached_sound n l reached) live runs
