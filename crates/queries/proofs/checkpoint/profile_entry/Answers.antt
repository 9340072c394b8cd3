use Rattle.std.proofs.Common.{◌≡◌, List, length, get_or, Some, vec_items, sym, ap, ◌∙◌, subst, arith}
use Rattle.std.proofs.lemmas.Bool.{ltb-false, ltb-true}
use Rattle.model.specs.Plain.{switch}
use Rattle.records.specs.declared.records.Generation.{Generation}
use Rattle.queries.proofs.Listings.{commit_at, switch_at}
use Rattle.queries.proofs.checkpoint.profile_entry.Goals as goal

pub returns-in-Some : goal.returns-in-Some
returns-in-Some c =
    let f = c.args.profile.now in
    let lent = c.generations.ensures in
    let long = ap length lent in
    let g = c.in-Some.generation.now in
    let Read : List Generation → Type 0 = λ gs. g ≡ get_or gs c.args.place g in
    commit_at (vec_items f.generations) f.current c.args.number c.args.place g (omega (arith, ltb-true c.args.place (length c.generations.result.now) (sym c.in-Some.ensures.lookup.0))) (subst Read lent c.in-Some.ensures.lookup.1)

pub returns-in-None : goal.returns-in-None
returns-in-None c =
    let f = c.args.profile.now in
    let long = ap length c.generations.ensures in
    ap (λ k. Some (switch c.args.number k)) c.current.ensures
    ∙ switch_at (vec_items f.generations) f.current c.args.number c.args.place (omega (arith, ltb-false c.args.place (length c.generations.result.now) (sym c.in-None.ensures.lookup.0))) c.requires
