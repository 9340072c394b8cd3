use Rattle.model.proofs.Sounds.{makes_sound}
use Rattle.model.proofs.made_is_sound.Goals as goal

pub returns : goal.returns
returns c n entries cat made = makes_sound made
