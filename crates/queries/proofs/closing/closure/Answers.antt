use Rattle.std.proofs.Common.{◌<◌, length, vec_items, sym, refl, subst, arith}
use Rattle.catalogue.specs.Whole.{catalogue_of}
use Rattle.queries.proofs.Founds.{row_count}
use Rattle.queries.proofs.Members.{Walked, needs_none, walked_all, walked_joins, walked_none}
use Rattle.queries.proofs.closing.closure.Goals as goal

pub returns-then-row-count : goal.returns-then-row-count
returns-then-row-count c =
    let cat = c.args.catalogue.now in
    let count = row_count c.paths-count.result.now (vec_items cat.paths) c.paths-count.ensures in
    needs_none cat.blocks (catalogue_of cat) cat.sound c.args.row c.empty-members.result (omega arith) c.empty-members.ensures

pub loop-place-init : goal.loop-place-init
loop-place-init c =
    let cat = c.args.catalogue.now in
    let count = row_count c.paths-count.result.now (vec_items cat.paths) c.paths-count.ensures in
    let there : c.args.row < length (catalogue_of cat).paths = omega arith in
    subst (Walked (catalogue_of cat).paths c.args.row c.insert.new.self) (sym count)
    (walked_none cat.blocks (catalogue_of cat) cat.sound c.args.row there c.insert.new.self c.empty-members.result c.empty-members.ensures c.insert.ensures)

pub loop-place-preserved-then-contains : goal.loop-place-preserved-then-contains
loop-place-preserved-then-contains c =
    let cat = c.args.catalogue.now in
    walked_joins cat.blocks (catalogue_of cat) cat.sound c.args.row c.loop-place.members c.union-members.result c.references.result c.loop-place.place _ (omega arith)
    (c.if-contains.ensures.test.0 refl) c.references.ensures c.union-members.ensures c.loop-place.invariant

pub returns : goal.returns
returns c =
    let cat = c.args.catalogue.now in
    let count = row_count c.paths-count.result.now (vec_items cat.paths) c.paths-count.ensures in
    let there : c.args.row < length (catalogue_of cat).paths = omega arith in
    walked_all cat.blocks (catalogue_of cat) cat.sound c.args.row there c.loop-place.members c.loop-place.place c.loop-place-test.false c.loop-place.invariant
