use Rattle.std.proofs.Common.{map, length, sym, arith}
use Rattle.std.proofs.lemmas.Bool.{ltb-true}
use Rattle.records.specs.View.{path_of}
use Rattle.queries.specs.Reach.{Leads}
use Rattle.queries.proofs.Founds.{found_no, found_yes, leads_all, leads_no, leads_yes}
use Rattle.queries.proofs.closing.references_of.Goals as goal
use Rattle.queries.proofs.closing.references_of.Goals.{then-refers_to, else-refers_to}

pub loop-place-preserved : goal.loop-place-preserved
loop-place-preserved c =
    let xs = c.args.paths.now in
    let row = c.args.row in
    let i = c.loop-place.place in
    let p = c.in-Some.from.now in
    let q = c.index-paths-place in
    let from = ltb-true row (length xs) (sym c.in-Some.ensures.lookup.0) in
    elim c.if-refers_to.branch [
      | then-refers_to w ↦
          rw w.rows-is
          (found_yes (Leads (map path_of xs) row) i c.loop-place.rows w.insert.new.self
          (leads_yes xs row i p q.result from (omega arith) c.in-Some.ensures.lookup.1 q.is w.if-refers_to.ensures) w.insert.ensures c.loop-place.invariant)
      | else-refers_to w ↦
          rw w.rows-is
          (found_no (Leads (map path_of xs) row) i c.loop-place.rows
          (leads_no xs row i p q.result from (omega arith) c.in-Some.ensures.lookup.1 q.is w.if-refers_to.ensures) c.loop-place.invariant)
    ]

pub returns : goal.returns
returns c = leads_all c.args.paths.now c.args.row c.loop-place.place c.loop-place.rows (omega arith) c.loop-place.invariant
