use Rattle.std.proofs.Common.{refl, inl, inr}
use Rattle.std.proofs.lemmas.Result.{err_from_is_err_and}
use Rattle.write_behind.proofs.Helds.{added_newest}
use Rattle.write_behind.proofs.Layers.{written_replaced, written_added, written_shifted, send_undone}
use Rattle.write_behind.proofs.Orders.{orderly_replaced, orderly_added, orderly_rest, orderly_same}
use Rattle.write_behind.proofs.WriteBehindDisk.write.Goals as goal

pub returns-then-replace : goal.returns-then-replace
returns-then-replace g c =
    let m = g.D.Disk.means c.args.self.now.below in
    let read = c.in_ok-read.ensures in
    let told = rw (c.pending-newest.ensures.0, c.pending-newest.ensures.1) at c.if-replace.ensures in
    record { meaning = written_replaced m _ _ _ c.args.from.now read.0 read.1 told; order = inl (refl, told); orderly = λ o. orderly_replaced _ _ c.args.from.now _ _ read.1 o told }

pub returns-in-None : goal.returns-in-None
returns-in-None g c =
    let m = g.D.Disk.means c.args.self.now.below in
    let read = c.in_ok-read.ensures in
    let told = rw c.pending-newest.ensures.0 at c.if-replace.ensures in
    let few = rw told.1 at c.in-None.ensures in
    let added = rw (c.pending-newest.ensures.0, c.pending-newest.ensures.1) at (added_newest _ _ _ (rw told.1 at c.hold.ensures)) in
    record { meaning = written_added m _ _ _ c.args.from.now read.0 read.1 added; order = inr (inl (refl, told.0, few, added)); orderly = λ o. orderly_added _ _ c.args.from.now _ _ read.1 o told.0 few added }

pub returns-in_err-send-in-Some : goal.returns-in_err-send-in-Some
returns-in_err-send-in-Some g c =
    let read = c.in_ok-read.ensures in
    let told = rw c.pending-newest.ensures.0 at c.if-replace.ensures in
    let full = rw told.1 at c.in-Some.ensures in
    let p = err_from_is_err_and c.from_residual-in_err-send-in-Some.result c.from_residual-in_err-send-in-Some.ensures.1 in
    let undone = send_undone g.D.Disk.means _ c.send.new.below _ _ c.in-Some.oldest _ c.args.from.now read.0 read.1 full.0 told.0 full.1 told.1 _ _ _ p.1 p.2 c.in_err-send-in-Some.ensures in
    record { meaning = undone.0; order = undone.1; orderly = λ o. orderly_same _ _ _ _ undone.2 told.1 o }

pub returns-in_ok-send-in-Some : goal.returns-in_ok-send-in-Some
returns-in_ok-send-in-Some g c =
    let m = g.D.Disk.means c.args.self.now.below in
    let read = c.in_ok-read.ensures in
    let told = rw c.pending-newest.ensures.0 at c.if-replace.ensures in
    let full = rw told.1 at c.in-Some.ensures in
    let sent = c.in_ok-send-in-Some.ensures in
    let added = rw (c.pending-newest.ensures.0, c.pending-newest.ensures.1) at (added_newest _ _ _ (rw told.1 at c.shift.ensures)) in
    let written = written_shifted m _ _ _ _ _ c.args.from.now read.0 read.1 full.0 _ sent added in
    record {
      meaning = written;
      order = inr (inr (c.in-Some.oldest, (told.0, full.0, full.1, sent, added)));
      orderly = λ o.
          let rest = orderly_rest _ _ _ _ _ full.0 told.0 o in
          orderly_same _ _ _ _ written.size refl (orderly_added _ _ c.args.from.now _ _ read.1 rest.0 rest.1 rest.2 added);
    }
