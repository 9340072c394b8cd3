use Rattle.std.proofs.Common.{Some, sym, ap, ◌∙◌}
use Rattle.naming.proofs.Copying.{copied_rest, copied_text}
use Rattle.naming.proofs.Same.{same_text}
use Rattle.naming.proofs.name.Name.new.Goals as goal

pub invariant_of-result-clause-rest : goal.invariant_of-result-clause-rest
invariant_of-result-clause-rest c = copied_rest c.args.text.now c.copy_from_slice.new.self c.copy_from_slice.ensures.after

pub returns-clause-back : goal.returns-clause-back
returns-clause-back c = λ n e. ap Some (same_text _ n (copied_text c.args.text.now c.copy_from_slice.new.self _ c.copy_from_slice.ensures.after ∙ sym e))
