-- The journal's place in the words of the rules.
use Rattle.std.specs.Prelude.{◌≡◌, ℕ, ◌+◌}
use Rattle.model.specs.Plain.{Catalogue}
use Rattle.model.specs.Standing as model
use Rattle.card.specs.Label.{Half}
use Rattle.journal.specs.Backed.{Sets, Backed}
use Rattle.journal.specs.Blocks.{before}
use Rattle.journal.specs.declared.place.Side.{Side}
use Rattle.journal.specs.declared.place.Side.TheVariants.{Lower, Upper}
use Rattle.journal.specs.declared.place.Place.{Place}
use Rattle.journal.specs.declared.place.Slot.{Slot}

-- The first block of a half.
abbrev pub start_of : Side → ℕ
start_of Lower = 1
start_of Upper = 65

-- The half in use, which began with so many entries.
abbrev pub half_with : ℕ → Place → Half
half_with count p = record { count = count; first = p.first; start = start_of p.side }

-- Where the entry at position i of the half stands.
pub record SlotAt (p : Place) (i : ℕ) (s : Slot) : Type 0 where
  pub block : s.block ≡ start_of p.side + i
  pub number : s.number ≡ p.first + i
  pub back : s.back ≡ before (start_of p.side) i

abbrev pub place_of : Place → model.Place
place_of p = record { first = p.first; used = p.used }

-- The catalogue with the journal's place.
abbrev pub standing_of : Catalogue → Place → model.Standing
standing_of cat p = record { catalogue = cat; place = place_of p }

-- The card is backed by the catalogue at this place, whatever the half began with.
abbrev pub BackedBy : ℕ → Sets → Place → Catalogue → Type 0
BackedBy n may p cat = (count : ℕ) × Backed n may (half_with count p) (standing_of cat p)
