use Rattle.ledger.proofs.Opens.{reached_sound, found_made}
use Rattle.ledger.proofs.every_reached_ledger_is_sound.Goals as goal

pub returns : goal.returns
returns c n l reached = let s = reached_sound n l reached in (s, λ found may. found_made l found s may)
