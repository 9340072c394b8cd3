-- What a trial of a power cut may find, and when it is refused.
use Rattle.std.specs.Prelude.{◌≡◌, ℕ, ◌<◌, true, false, ◌⊎◌, List, replicate, Ok, Err, Result}
use Rattle.disk.specs.declared.Fault.{Fault}
use Rattle.disk.specs.declared.Fault.TheVariants.{Dark, NoBlock}
use Rattle.disk.specs.Meaning.{Meaning, Same, Settled}
use Rattle.trials.specs.declared.Outcome.{Outcome}

-- A block full of one byte.
abbrev pub full_of : ℕ → List ℕ
full_of x = replicate 256 x

-- Of a set, block 0 alone may have gained, and only the two contents of the trial.
abbrev pub GainsTwo : Meaning → ℕ → ℕ → Meaning → Type 0
GainsTwo m old new m' = (k : ℕ) (y : List ℕ) → k < m.blocks → m'.may k y → m.may k y ⊎ ((k ≡ 0) × ((y ≡ full_of old) ⊎ (y ≡ full_of new)))

-- The trial came to its end: the disk is lit, and block 0 is settled and full of what was found. That is the new content; or the old one, where the barrier
-- after the new one was not done.
pub record Ended (m : Meaning) (old new : ℕ) (o : Outcome) (m' : Meaning) : Type 0 where
  pub was : m.lit ≡ true
  pub within : 0 < m.blocks
  pub size : m'.blocks ≡ m.blocks
  pub light : m'.lit ≡ true
  pub settled : Settled m'
  pub here : m'.present 0 ≡ full_of o.found
  pub gains : GainsTwo m old new m'
  pub found : (o.found ≡ new) ⊎ ((o.found ≡ old) × (o.settled ≡ false))

-- The power failed in a write or in the first barrier.
pub record CutShort (m : Meaning) (old new : ℕ) (m' : Meaning) : Type 0 where
  pub was : m.lit ≡ true
  pub within : 0 < m.blocks
  pub size : m'.blocks ≡ m.blocks
  pub dark : m'.lit ≡ false
  pub gains : GainsTwo m old new m'

-- The new content; or the old one, where the barrier after the new one was not done.
abbrev pub Tried : ℕ → ℕ → Result Outcome Fault → Type 0
Tried old new (Ok o) = (o.found ≡ new) ⊎ ((o.found ≡ old) × (o.settled ≡ false))
Tried old new (Err _) = Unit {0}

-- A dark disk is refused, and one without blocks; nothing has changed then. A lit disk with a block is refused only where it goes dark on the way.
abbrev pub TriedOn : Meaning → ℕ → ℕ → Result Outcome Fault → Meaning → Type 0
TriedOn m old new (Ok o) m' = Ended m old new o m'
TriedOn m old new (Err Dark) m' = ((m.lit ≡ false) × Same m m') ⊎ CutShort m old new m'
TriedOn m old new (Err NoBlock) m' = (m.lit ≡ true) × (m.blocks ≡ 0) × Same m m'
