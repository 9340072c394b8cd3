use Rattle.ledger.proofs.Keeps.{sound_kept}
use Rattle.ledger.proofs.Opens.{reached_sound}
use Rattle.ledger.proofs.what_is_needed_is_kept.Goals as goal

pub returns : goal.returns
returns c n l reached = sound_kept l (reached_sound n l reached)
