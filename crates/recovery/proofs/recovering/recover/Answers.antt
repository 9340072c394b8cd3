use Rattle.std.proofs.Common.{rules}
use Rattle.recovery.proofs.Recoveries.{recovered}
use Rattle.recovery.proofs.recovering.recover.Goals as goal

pub returns : goal.returns
returns g c = search (rules, recovered)
