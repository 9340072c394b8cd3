use Rattle.recovery.proofs.Readings.{label_read}
use Rattle.recovery.proofs.loading.read_label.Goals as goal

pub returns : goal.returns
returns g c =
    let read = c.in_ok-read.ensures in label_read (g.D.Disk.means c.args.disk.now) _ _ c.decode_label.result c.ok_or.result read.0 read.2 c.decode_label.ensures.cases c.ok_or.ensures.value
