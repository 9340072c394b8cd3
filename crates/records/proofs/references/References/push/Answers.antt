use Rattle.records.proofs.Places.{blank_more}
use Rattle.records.proofs.references.References.push.Goals as goal

pub invariant_of-self-clause-rest : goal.invariant_of-self-clause-rest
invariant_of-self-clause-rest c = let refs = c.args.self.now in blank_more refs.count refs.hashes c.args.hash refs.rest
