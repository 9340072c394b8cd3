use Rattle.std.proofs.Common.{◌<◌, List, map, subst}
use Rattle.order.specs.Rows.{HasJust}
use Rattle.records.specs.declared.records.PathRecord.{PathRecord}
use Rattle.records.specs.View.{path_of}
use Rattle.catalogue.specs.Whole.{catalogue_of}
use Rattle.queries.specs.Reach.{Leads}
use Rattle.queries.proofs.Members.{leads_few}
use Rattle.queries.proofs.closing.references.Goals as goal

pub returns : goal.returns
returns c =
    let cat = c.args.catalogue.now in
    let rows = c.references_of.result in
    let Few : List PathRecord → Type 0 = λ xs. HasJust rows (λ k. Leads (map path_of xs) c.args.row k × (k < 64)) in
    leads_few cat.blocks (catalogue_of cat) cat.sound c.args.row rows (subst Few c.paths.ensures c.references_of.ensures)
