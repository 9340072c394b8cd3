use Rattle.model.proofs.Sounds.{sound_nothing, sound_after}
use Rattle.model.proofs.entries_keep_sound.Goals as goal

pub returns : goal.returns
returns c n = (sound_nothing n, λ cat e s fits. sound_after n cat e s fits)
