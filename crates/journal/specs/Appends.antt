-- What appending an entry does, wherever the power fails.
use Rattle.std.specs.Prelude.{◌≡◌, ℕ, ◌+◌, ◌-◌, ◌^◌, ◌<◌, ◌≤◌, true, false, ◌⊎◌, List, length, Ok, Err, Result, slice_index_or}
use Rattle.disk.specs.declared.Fault.{Fault}
use Rattle.disk.specs.declared.Fault.TheVariants.{Dark, NoBlock}
use Rattle.disk.specs.Meaning.{Meaning}
use Rattle.model.specs.Plain.{Catalogue, Entry}
use Rattle.model.specs.Fits.{Fits, after}
use Rattle.model.specs.Listing.{listing}
use Rattle.model.specs.Standing as model
use Rattle.model.specs.Standing.{next_number}
use Rattle.catalogue.specs.declared.catalogues.Catalogue.{Catalogue as RustCatalogue}
use Rattle.catalogue.specs.Whole.{catalogue_of}
use Rattle.card.specs.Label.{Half, Labels}
use Rattle.journal.specs.Blocks.{no_entry}
use Rattle.journal.specs.Backed.{Sets, other, IsEntry, next_half, Backed}
use Rattle.journal.specs.Steps.{Put, Found, DataKept, BeforeOrAfter}
use Rattle.journal.specs.View.{start_of, half_with, place_of, standing_of, BackedBy}
use Rattle.journal.specs.declared.place.Place.{Place}
use Rattle.journal.specs.declared.appending.AppendError.{AppendError}
use Rattle.journal.specs.declared.appending.AppendError.TheVariants.{NumbersSpent, Failed}

-- A block that is the entry is written at its position and settled.
abbrev pub EntryPut : Meaning → Place → ℕ → Entry → Result Unit Fault → Meaning → Type 0
EntryPut m p i e r m' = (x : List ℕ) × (IsEntry x (half_with 0 p) i e × Put m (start_of p.side + i) x r m')

-- The checkpoint's first m entries stand in the other half, and cannot be lost.
abbrev pub Listed : Sets → Half → model.Standing → ℕ → Type 0
Listed may h s m = (i : ℕ) (y : List ℕ) → i < m → may (other h.start + i) y → IsEntry y (next_half h s) i (slice_index_or (listing s.catalogue) i no_entry)

-- The listing is written to the half at p, while the journal in the half h is full: the card stays backed by it, whatever the power does.
pub record ListsInto (p : Place) (h : Half) (s : model.Standing) : Type 0 where
  pub full : s.place.used ≡ 64
  pub first : p.first ≡ h.first + 64
  pub start : start_of p.side ≡ other h.start

abbrev pub ListingDone : Meaning → Half → model.Standing → Result ℕ Fault → Meaning → Type 0
ListingDone m h s (Ok k) m' = (m'.lit ≡ true) × DataKept m m' × Backed m'.blocks m'.may h s × (k ≡ length (listing s.catalogue)) × Listed m'.may h s k
ListingDone m h s (Err Dark) m' = (m'.lit ≡ false) × DataKept m m' × Backed m'.blocks m'.may h s
ListingDone m h s (Err NoBlock) m' = ⊥

abbrev pub ListingPut : Meaning → Catalogue → Place → Result ℕ Fault → Meaning → Type 0
ListingPut m cat p r m' = (h : Half) (s : model.Standing) → m.lit ≡ true → s.catalogue ≡ cat → ListsInto p h s → Backed m.blocks m.may h s → ListingDone m h s r m'

-- The label that names the half at p is written and settled.
abbrev pub LabelPut : Meaning → ℕ → Place → ℕ → Result Unit Fault → Meaning → Type 0
LabelPut m n p count r m' = (x : List ℕ) × ((count ≤ 61 → Labels n x (half_with count p)) × Put m 0 x r m')

-- The halves are changed: the same catalogue stands in the other half, or a restart finds it in either.
abbrev pub InEitherHalf : model.Standing → model.Standing → Type 0
InEitherHalf s t = (t ≡ s) ⊎ (t ≡ model.moved s)

-- The disk is lit and the card backed by the code's catalogue, which is made for as many blocks, at this place.
pub record Ready (m : Meaning) (cat : RustCatalogue) (p : Place) : Type 0 where
  pub lit : m.lit ≡ true
  pub blocks : cat.blocks ≡ m.blocks
  pub backed : BackedBy m.blocks m.may p (catalogue_of cat)

pub record ChangedDone (m : Meaning) (cat : RustCatalogue) (p p' : Place) (m' : Meaning) : Type 0 where
  pub ready : Ready m' cat p'
  pub kept : DataKept m m'
  pub moved : standing_of (catalogue_of cat) p' ≡ model.moved (standing_of (catalogue_of cat) p)

pub record ChangedCut (m : Meaning) (cat : RustCatalogue) (p : Place) (m' : Meaning) : Type 0 where
  pub dark : m'.lit ≡ false
  pub kept : DataKept m m'
  pub found : Found m' (InEitherHalf (standing_of (catalogue_of cat) p))

abbrev pub Changed : Meaning → RustCatalogue → Place → Result Place Fault → Meaning → Type 0
Changed m cat p (Ok p') m' = Ready m cat p → p.used ≡ 64 → p.first + 64 ≤ 2 ^ 62 - 128 → ChangedDone m cat p p' m'
Changed m cat p (Err Dark) m' = Ready m cat p → p.used ≡ 64 → p.first + 64 ≤ 2 ^ 62 - 128 → ChangedCut m cat p m'
Changed m cat p (Err NoBlock) m' = Ready m cat p → p.used ≡ 64 → p.first + 64 ≤ 2 ^ 62 - 128 → ⊥

-- An entry is appended: the card is backed by what it makes of the catalogue; or the power failed, and a restart finds the catalogue before
-- or after the entry. The data is kept either way.
pub record AppendDone (m : Meaning) (cat : Catalogue) (p : Place) (e : Entry) (p' : Place) (m' : Meaning) : Type 0 where
  pub lit : m'.lit ≡ true
  pub kept : DataKept m m'
  pub backed : BackedBy m'.blocks m'.may p' (after cat e)
  pub entered : standing_of (after cat e) p' ≡ model.entered (standing_of cat p) e

pub record AppendCut (m : Meaning) (cat : Catalogue) (p : Place) (e : Entry) (m' : Meaning) : Type 0 where
  pub dark : m'.lit ≡ false
  pub kept : DataKept m m'
  pub found : Found m' (BeforeOrAfter (standing_of cat p) e)

abbrev pub AppendTo : Meaning → Catalogue → Place → Entry → Result Place Fault → Meaning → Type 0
AppendTo m cat p e (Ok p') m' = AppendDone m cat p e p' m'
AppendTo m cat p e (Err Dark) m' = AppendCut m cat p e m'
AppendTo m cat p e (Err NoBlock) m' = ⊥

-- In a half with room, and in any half.
abbrev pub Enters : Meaning → Place → Entry → Result Place Fault → Meaning → Type 0
Enters m p e r m' = (cat : Catalogue) → m.lit ≡ true → BackedBy m.blocks m.may p cat → Fits m.blocks cat e → AppendTo m cat p e r m'

abbrev pub Appends : Meaning → RustCatalogue → Place → Entry → Result Place Fault → Meaning → Type 0
Appends m cat p e r m' = Ready m cat p → Fits m.blocks (catalogue_of cat) e → AppendTo m (catalogue_of cat) p e r m'

-- The whole call: refused where the numbers are spent, and then the place is as it was.
abbrev pub Appended : Meaning → RustCatalogue → Place → Entry → Result Unit AppendError → Meaning → Place → Type 0
Appended m cat p e (Ok _) m' p' = (next_number (place_of p) ≤ 2 ^ 62 - 128) × Appends m cat p e (Ok p') m'
Appended m cat p e (Err NumbersSpent) m' p' = (2 ^ 62 - 128 < next_number (place_of p)) × (p' ≡ p)
Appended m cat p e (Err (Failed fault)) m' p' = (next_number (place_of p) ≤ 2 ^ 62 - 128) × (p' ≡ p) × Appends m cat p e (Err fault) m'
