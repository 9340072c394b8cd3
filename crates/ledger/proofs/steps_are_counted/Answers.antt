use Rattle.ledger.proofs.Counts.{steps_counted}
use Rattle.ledger.proofs.Opens.{reached_sound}
use Rattle.ledger.proofs.steps_are_counted.Goals as goal

pub returns : goal.returns
returns c n l k m z calls answers reached collected run opens ends last = steps_counted l k m z calls answers (reached_sound n l reached) collected run opens ends last
