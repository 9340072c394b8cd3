use Rattle.write_behind.proofs.Layers.{behind_sound}
use Rattle.write_behind.proofs.WriteBehindDisk.size.Goals as goal

pub returns : goal.returns
returns g c = record { value = c.size.ensures.value; sound = behind_sound _ _ c.size.ensures.sound }
