use Rattle.ledger.proofs.Opens.{seals_only}
use Rattle.ledger.proofs.only_a_seal_gives_content.Goals as goal

pub returns : goal.returns
returns c l m call answer step = seals_only l m call answer step
