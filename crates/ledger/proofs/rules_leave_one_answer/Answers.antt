use Rattle.ledger.proofs.Opens.{reached_sound}
use Rattle.ledger.proofs.Single.{one_answer}
use Rattle.ledger.proofs.rules_leave_one_answer.Goals as goal

pub returns : goal.returns
returns c n l m k call a b reached unopened unshut first second = one_answer l m k call a b (reached_sound n l reached) unopened unshut first second
