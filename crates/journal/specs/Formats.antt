-- What formatting a card does, wherever the power fails.
use Rattle.std.specs.Prelude.{◌≡◌, ℕ, ◌<◌, ◌≤◌, true, false, ◌⊎◌, List, Ok, Err, Result}
use Rattle.disk.specs.declared.Fault.{Fault}
use Rattle.disk.specs.declared.Fault.TheVariants.{Dark, NoBlock}
use Rattle.disk.specs.Meaning.{Meaning, Choice, Restarted}
use Rattle.model.specs.Plain.{nothing}
use Rattle.model.specs.Standing.{Standing}
use Rattle.card.specs.Label.{Half}
use Rattle.journal.specs.Backed.{Backed}
use Rattle.journal.specs.Blocks.{Blocks}
use Rattle.journal.specs.Steps.{alone, zeros, DataKept}
use Rattle.journal.specs.View.{place_of, BackedBy}
use Rattle.journal.specs.declared.place.Place.{Place}
use Rattle.journal.specs.declared.formatting.FormatError.{FormatError}
use Rattle.journal.specs.declared.formatting.FormatError.TheVariants.{WrongSize, Failed}

-- The card is backed by the empty catalogue, at the first number of the lower half.
pub record EmptyCard (m : Meaning) (p : Place) : Type 0 where
  pub lit : m.lit ≡ true
  pub backed : BackedBy m.blocks m.may p nothing
  pub place : place_of p ≡ record { first = 1; used = 0 }

-- An empty journal, before its first entry.
abbrev pub new_standing : Standing
new_standing = record { catalogue = nothing; place = record { first = 1; used = 0 } }

-- These contents are a card with an empty journal.
abbrev pub NewCard : ℕ → Blocks → Type 0
NewCard n f = (h : Half) × Backed n (alone f) h new_standing

-- A format that the power cut: a restart finds each block as it could be found before, or a card with no label, or a new card.
abbrev pub FormatCut : Meaning → Meaning → Type 0
FormatCut m m' = (f : Blocks) → Choice m' f → Choice m f ⊎ ((f 0 ≡ zeros) ⊎ NewCard m.blocks f)

-- On a lit disk of n blocks that a card may have.
abbrev pub LayingOut : Meaning → ℕ → Type 0
LayingOut m n = (m.lit ≡ true) × (n ≡ m.blocks) × (130 ≤ n) × (n ≤ 65536)

abbrev pub LaidOut : Meaning → ℕ → Result Place Fault → Meaning → Type 0
LaidOut m n (Ok p) m' = LayingOut m n → EmptyCard m' p × DataKept m m'
LaidOut m n (Err Dark) m' = LayingOut m n → (m'.lit ≡ false) × DataKept m m' × FormatCut m m'
LaidOut m n (Err NoBlock) m' = LayingOut m n → ⊥

-- The data, from block 129 on, is as a restart found it.
pub record DataFound (m m' : Meaning) : Type 0 where
  pub size : m'.blocks ≡ m.blocks
  pub gains : (k : ℕ) (y : List ℕ) → 129 ≤ k → k < m.blocks → m'.may k y → m.may k y
  pub comes : m'.lit ≡ true → (k : ℕ) → 129 ≤ k → k < m.blocks → m.may k (m'.present k)

abbrev pub Formatted : Meaning → Result Place FormatError → Meaning → Type 0
Formatted m (Ok p) m' = (130 ≤ m.blocks) × (m.blocks ≤ 65536) × EmptyCard m' p × DataFound m m'
Formatted m (Err WrongSize) m' = ((m.blocks < 130) ⊎ (65536 < m.blocks)) × Restarted m m'
Formatted m (Err (Failed Dark)) m' = (130 ≤ m.blocks) × (m.blocks ≤ 65536) × (m'.lit ≡ false) × DataFound m m' × FormatCut m m'
Formatted m (Err (Failed NoBlock)) m' = ⊥
