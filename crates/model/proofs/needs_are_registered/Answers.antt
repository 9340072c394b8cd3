use Rattle.model.proofs.Rows.{needs_registered}
use Rattle.model.proofs.needs_are_registered.Goals as goal

pub returns : goal.returns
returns c n cat h q s there member = needs_registered n cat.paths s.rows h q there member
