use Rattle.std.proofs.Common.{◌≡◌, Decides, sym, ◌∙◌, subst}
use Rattle.std.specs.Cmp.{unsigned_ties}
use Rattle.naming.specs.Hash.{number_of}
use Rattle.naming.specs.Laws.{equal_by_number, exact_hash}
use Rattle.programs.proofs.ProgramPartialEq.eq.Goals as goal

pub returns : goal.returns
returns c =
    let g = c.args.self.now.hash in
    let h = c.args.other.now.hash in
    record {
      eq = c.eq.ensures ∙ equal_by_number g h ∙ sym (unsigned_ties (number_of g.bytes) (number_of h.bytes));
      same = subst (λ t. Decides t (g ≡ h)) (sym c.eq.ensures) (exact_hash g h);
    }
