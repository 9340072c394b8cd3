use Rattle.std.proofs.Common.{◌≡◌, [], Some, None, inl, subst, arith, rules}
use Rattle.catalogue.specs.Whole.{catalogue_of}
use Rattle.model.specs.Plain.{blocks}
use Rattle.queries.specs.Room.{FreeRun, taken_by}
use Rattle.programs.proofs.Program.placed.Goals as goal

pub returns-in_err-free_run : goal.returns-in_err-free_run
returns-in_err-free_run c =
    let count : c.div_ceil.result ≡ blocks c.args.size = omega arith in
    rw c.from_residual.ensures (inl (subst (λ n. FreeRun c.args.catalogue.now.blocks (taken_by (catalogue_of c.args.catalogue.now).paths []) n None) count c.in_err-free_run.ensures))

pub returns : goal.returns
returns c =
    let count : c.div_ceil.result ≡ blocks c.args.size = omega arith in
    record {
      hash = search rules;
      name = search rules;
      size_is = search rules;
      refs = search rules;
      room = subst (λ n. FreeRun c.args.catalogue.now.blocks (taken_by (catalogue_of c.args.catalogue.now).paths []) n (Some c.in_ok-free_run.field-0)) count c.in_ok-free_run.ensures;
    }
