use Rattle.std.proofs.Common.{◌∙◌}
use Rattle.std.proofs.lemmas.Result.{err_from_is_err_and}
use Rattle.recovery.specs.Loaded.{Loaded}
use Rattle.recovery.proofs.Readings.{half_found, half_loads, label_fails}
use Rattle.recovery.proofs.Recoveries.{backed_loads}
use Rattle.recovery.proofs.loading.load.Goals as goal

pub returns-in_err-label : goal.returns-in_err-label
returns-in_err-label g c =
    let m = g.D.Disk.means c.args.disk.now in
    let sized = rw c.in_ok-blocks.ensures.ok_part at c.card_blocks.ensures in
    let p = err_from_is_err_and c.from_residual-in_err-label.result c.from_residual-in_err-label.ensures.1 in
    let loaded : Loaded m c.args.catalogue.now c.from_residual-in_err-label.result c.args.catalogue.now =
    rw (p.1, p.2) (label_fails m c.args.catalogue.now c.in_ok-blocks.blocks _ sized.0 sized.1 c.in_err-label.ensures) in
    record { card = loaded; backed = backed_loads m c.args.catalogue.now c.from_residual-in_err-label.result c.args.catalogue.now loaded }

pub returns : goal.returns
returns g c =
    let m = g.D.Disk.means c.args.disk.now in
    let sized = rw c.in_ok-blocks.ensures.ok_part at c.card_blocks.ensures in
    let read = c.in_ok-label.ensures in
    let into = c.read_half.ensures sized.0 read.0 (rw sized.1 at read.1) in
    let found = half_found m c.clear.new.self c.read_half.result c.read_half.new.catalogue (c.clear.ensures.0, c.clear.ensures.1 ∙ sized.1) into in
    let loaded : Loaded m c.args.catalogue.now c.read_half.result c.read_half.new.catalogue =
    half_loads m c.args.catalogue.now c.read_half.result c.read_half.new.catalogue sized.0 read.0 found in
    record { card = loaded; backed = backed_loads m c.args.catalogue.now c.read_half.result c.read_half.new.catalogue loaded }
