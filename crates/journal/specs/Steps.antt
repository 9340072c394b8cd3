-- What writing the journal does to a disk.
use Rattle.std.specs.Prelude.{◌≡◌, ℕ, ◌<◌, ◌≤◌, true, false, ◌⊎◌, List, replicate, Ok, Err, Result, ◌≢◌}
use Rattle.disk.specs.declared.Fault.{Fault}
use Rattle.disk.specs.declared.Fault.TheVariants.{Dark, NoBlock}
use Rattle.disk.specs.Meaning.{Meaning, Choice, GainsOnly}
use Rattle.model.specs.Plain.{Entry}
use Rattle.model.specs.Standing.{Standing, moved, entered}
use Rattle.card.specs.Label.{Half}
use Rattle.journal.specs.Blocks.{Blocks}
use Rattle.journal.specs.Backed.{Sets, Backed}

-- The sets of a disk that was found with these contents.
abbrev pub alone : Blocks → Sets
alone f k y = y ≡ f k

-- Block b has the content x, which no cut can undo; the other blocks have their contents, and their sets have not gained.
pub record SettledWith (m : Meaning) (b : ℕ) (x : List ℕ) (m' : Meaning) : Type 0 where
  pub size : m'.blocks ≡ m.blocks
  pub light : m'.lit ≡ true
  pub others : (k : ℕ) → k < m.blocks → (k ≢ b) → m'.present k ≡ m.present k
  pub sets : (k : ℕ) (y : List ℕ) → k < m.blocks → m'.may k y → (k ≡ b → y ≡ x) × ((k ≢ b) → m.may k y)

-- The power failed before that.
pub record CutWith (m : Meaning) (b : ℕ) (x : List ℕ) (m' : Meaning) : Type 0 where
  pub size : m'.blocks ≡ m.blocks
  pub dark : m'.lit ≡ false
  pub gains : GainsOnly b x m m'

-- A block of a lit disk is written and settled.
abbrev pub Put : Meaning → ℕ → List ℕ → Result Unit Fault → Meaning → Type 0
Put m b x (Ok _) m' = m.lit ≡ true → SettledWith m b x m'
Put m b x (Err Dark) m' = m.lit ≡ true → CutWith m b x m'
Put m b x (Err NoBlock) m' = m.lit ≡ true → m.blocks ≤ b

-- A disk of a size that a card has.
abbrev pub CardSized : Meaning → Type 0
CardSized m = (130 ≤ m.blocks) × (m.blocks ≤ 65536)

-- The data, from block 129 on, stays as it was: no set gains, and a lit disk has the same contents.
pub record DataKept (m m' : Meaning) : Type 0 where
  pub size : m'.blocks ≡ m.blocks
  pub gains : (k : ℕ) (y : List ℕ) → 129 ≤ k → k < m.blocks → m'.may k y → m.may k y
  pub contents : m'.lit ≡ true → (k : ℕ) → 129 ≤ k → k < m.blocks → m'.present k ≡ m.present k

-- However the cut falls, a restart finds one of these standings.
abbrev pub Found : Meaning → (Standing → Type 0) → Type 0
Found m Allowed = (f : Blocks) → Choice m f → (h : Half) × ((s : Standing) × (Allowed s × Backed m.blocks (alone f) h s))

-- The catalogue before the entry, or after it; or, while the halves change, the one before in the other half.
pub data BeforeOrAfter (s : Standing) (e : Entry) : Standing → Type 0 where
  as_before : BeforeOrAfter s e s
  as_moved : s.place.used ≡ 64 → BeforeOrAfter s e (moved s)
  as_after : BeforeOrAfter s e (entered s e)

-- Blocks 1 to 128 are zeros, which no cut can undo; the other blocks have their contents, and their sets have not gained.
abbrev pub zeros : List ℕ
zeros = replicate 256 0

abbrev pub InHalves : ℕ → Type 0
InHalves k = (1 ≤ k) × (k ≤ 128)

pub record Cleared (m m' : Meaning) : Type 0 where
  pub size : m'.blocks ≡ m.blocks
  pub light : m'.lit ≡ true
  pub others : (k : ℕ) → k < m.blocks → (InHalves k → ⊥) → m'.present k ≡ m.present k
  pub sets : (k : ℕ) (y : List ℕ) → k < m.blocks → m'.may k y → (InHalves k → y ≡ zeros) × ((InHalves k → ⊥) → m.may k y)

-- The power failed before that: outside the halves no set has gained.
pub record NotCleared (m m' : Meaning) : Type 0 where
  pub size : m'.blocks ≡ m.blocks
  pub dark : m'.lit ≡ false
  pub gains : (k : ℕ) (y : List ℕ) → k < m.blocks → (InHalves k → ⊥) → m'.may k y → m.may k y

abbrev pub Clear : Meaning → Result Unit Fault → Meaning → Type 0
Clear m (Ok _) m' = m.lit ≡ true → Cleared m m'
Clear m (Err Dark) m' = m.lit ≡ true → NotCleared m m'
Clear m (Err NoBlock) m' = m.lit ≡ true → m.blocks ≤ 128

-- The first blocks of the halves are written, and not settled yet.
pub record Zeroed (m : Meaning) (upto : ℕ) (m' : Meaning) : Type 0 where
  pub size : m'.blocks ≡ m.blocks
  pub light : m'.lit ≡ true
  pub here : (k : ℕ) → 1 ≤ k → k < upto → m'.present k ≡ zeros
  pub others : (k : ℕ) → k < m.blocks → (k < 1) ⊎ (upto ≤ k) → m'.present k ≡ m.present k
  pub gains : (k : ℕ) (y : List ℕ) → k < m.blocks → m'.may k y → m.may k y ⊎ ((1 ≤ k) × (k < upto) × (y ≡ zeros))
