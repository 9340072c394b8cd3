use Rattle.std.proofs.Common.{◌≡◌, ◌+◌, ◌-◌, ◌^◌, ◌≤◌, arith}
use Rattle.std.proofs.lemmas.Result.{err_from_is_err_and}
use Rattle.journal.proofs.Enterings.{change_fails, then_enters}
use Rattle.journal.proofs.appending.append_at.Goals as goal

pub returns-in_err-next : goal.returns-in_err-next
returns-in_err-next g c =
    let full : c.args.at.now.used ≡ 64 = omega (arith, c.if-at-lt64.false, c.args.at.now.room) in
    let numbered : c.args.at.now.first + 64 ≤ 2 ^ 62 - 128 = omega (arith, c.requires) in
    let p = err_from_is_err_and c.from_residual.result c.from_residual.ensures.1 in
    rw (p.1, p.2) (change_fails _ _ _ _ full numbered _ _ c.in_err-next.ensures.law)

pub returns : goal.returns
returns g c =
    let full : c.args.at.now.used ≡ 64 = omega (arith, c.if-at-lt64.false, c.args.at.now.room) in
    let numbered : c.args.at.now.first + 64 ≤ 2 ^ 62 - 128 = omega (arith, c.requires) in
    then_enters _ _ _ _ full numbered (g.D.Disk.means c.change_halves.new.disk) (g.D.Disk.means c.enter-2.new.disk) c.in_ok-next.next c.enter-2.result c.in_ok-next.ensures.law c.enter-2.ensures
