-- What loading a card answers, for every content that it may have.
use Rattle.std.specs.Prelude.{◌≡◌, ℕ, ◌+◌, ◌<◌, ◌≤◌, Bool, true, false, ◌⊎◌, List, length, Ok, Err, Result}
use Rattle.disk.specs.Meaning.{Meaning}
use Rattle.disk.specs.declared.Fault.{Fault}
use Rattle.disk.specs.declared.Fault.TheVariants.{Dark as FaultDark, NoBlock as FaultNoBlock}
use Rattle.model.specs.Plain.{Entry, nothing}
use Rattle.model.specs.Fits.{Fits, Makes}
use Rattle.catalogue.specs.declared.catalogues.Catalogue.{Catalogue}
use Rattle.catalogue.specs.Whole.{Becomes, catalogue_of}
use Rattle.card.specs.Entries.{Says}
use Rattle.card.specs.Label.{Half, Labels}
use Rattle.card.specs.View.{half_of}
use Rattle.card.specs.declared.label.Label.{Label}
use Rattle.recovery.specs.Loads.{Counts, Reads, Ends, Whole, Damaged}
use Rattle.journal.specs.Steps.{CardSized}
use Rattle.journal.specs.View.{start_of, half_with}
use Rattle.journal.specs.declared.place.Place.{Place}
use Rattle.recovery.specs.declared.loading.LoadError.{LoadError}
use Rattle.recovery.specs.declared.loading.LoadError.TheVariants.{Dark, WrongSize, BadLabel, BadEntry}

-- What a fault of the disk is to a load.
abbrev pub load_error_of : Fault → LoadError
load_error_of FaultDark = Dark
load_error_of FaultNoBlock = WrongSize

-- No entry that the block says fits.
abbrev pub Unfitting : Catalogue → List ℕ → Type 0
Unfitting c block = (e : Entry) → Says block e → Fits c.blocks (catalogue_of c) e → ⊥

-- The entry that the block says is applied, if it fits.
abbrev pub Took : Catalogue → List ℕ → Bool → Catalogue → Type 0
Took c block true d = (e : Entry) × (Says block e × Fits c.blocks (catalogue_of c) e × Becomes c e d)
Took c block false d = Unfitting c block × (d ≡ c)

-- The entry at position i of the half at p.
abbrev pub PositionRead : Meaning → Place → ℕ → Catalogue → Result Bool LoadError → Catalogue → Type 0
PositionRead m p i c (Ok true) d = (m.lit ≡ true) × Counts m.present (half_with 0 p) i × Took c (m.present (start_of p.side + i)) true d
PositionRead m p i c (Ok false) d = (m.lit ≡ true) × (Counts m.present (half_with 0 p) i → ⊥) × (d ≡ c)
PositionRead m p i c (Err Dark) d = (m.lit ≡ false) × (d ≡ c)
PositionRead m p i c (Err WrongSize) d = (m.blocks ≤ start_of p.side + i) × (d ≡ c)
PositionRead m p i c (Err BadLabel) d = ⊥
PositionRead m p i c (Err (BadEntry b)) d =
    (m.lit ≡ true) × (b ≡ start_of p.side + i) × Counts m.present (half_with 0 p) i × Unfitting c (m.present (start_of p.side + i)) × (d ≡ c)

-- A catalogue with nothing in it, made for a card of as many blocks.
abbrev pub FreshFor : Meaning → Catalogue → Type 0
FreshFor m c = (catalogue_of c ≡ nothing) × (c.blocks ≡ m.blocks)

-- The first i entries of the half at p are read, and made the catalogue.
pub record SoFar (m : Meaning) (p : Place) (i : ℕ) (d : Catalogue) : Type 0 where
  pub entries : List Entry
  pub long : length entries ≡ i
  pub reads : Reads m.present (half_with 0 p) entries
  pub makes : Makes m.blocks entries (catalogue_of d)
  pub blocks : d.blocks ≡ m.blocks

-- The entries of the half at p: how many there are, or where one does not fit.
abbrev pub EntriesRead : Meaning → Place → Catalogue → Result ℕ LoadError → Catalogue → Type 0
EntriesRead m p c (Ok k) d = (m.lit ≡ true) × (k ≤ 64) × (FreshFor m c → SoFar m p k d × Ends m.present (half_with 0 p) k)
EntriesRead m p c (Err Dark) d = m.lit ≡ false
EntriesRead m p c (Err WrongSize) d = m.blocks ≤ 128
EntriesRead m p c (Err BadLabel) d = ⊥
EntriesRead m p c (Err (BadEntry b)) d =
    (m.lit ≡ true) × (FreshFor m c → (i : ℕ) × ((i < 64) × (b ≡ start_of p.side + i) × SoFar m p i d × Counts m.present (half_with 0 p) i × Unfitting d (m.present (start_of p.side + i))))

-- The label of a card of n blocks.
abbrev pub LabelRead : Meaning → ℕ → Result Label LoadError → Type 0
LabelRead m n (Ok l) = (m.lit ≡ true) × Labels n (m.present 0) (half_of l)
LabelRead m n (Err Dark) = m.lit ≡ false
LabelRead m n (Err WrongSize) = m.blocks ≡ 0
LabelRead m n (Err BadLabel) = (m.lit ≡ true) × ((h : Half) → Labels n (m.present 0) h → ⊥)
LabelRead m n (Err (BadEntry b)) = ⊥

-- The card is whole: its journal made the catalogue, and ends at the place.
abbrev pub FoundWhole : Meaning → Place → Catalogue → Type 0
FoundWhole m p d = (count : ℕ) × ((entries : List Entry) × (Whole m.blocks m.present (half_with count p) entries (catalogue_of d) × (length entries ≡ p.used)))

-- The card is damaged at block b: the entries before it made the catalogue.
abbrev pub FoundDamaged : Meaning → ℕ → Catalogue → Type 0
FoundDamaged m b d = (h : Half) × ((i : ℕ) × ((b ≡ h.start + i) × Damaged m.blocks m.present h i (catalogue_of d)))

-- The half that the label names, read into a catalogue with nothing in it.
abbrev pub HalfFound : Meaning → Result Place LoadError → Catalogue → Type 0
HalfFound m (Ok p) d = FoundWhole m p d × (d.blocks ≡ m.blocks)
HalfFound m (Err Dark) d = ⊥
HalfFound m (Err WrongSize) d = ⊥
HalfFound m (Err BadLabel) d = ⊥
HalfFound m (Err (BadEntry b)) d = FoundDamaged m b d × (d.blocks ≡ m.blocks)

-- The half that the label names, read into any catalogue: into one with something in it, all that is said is that the answer is a place or a bad entry.
abbrev pub HalfInto : Meaning → Catalogue → Result Place LoadError → Catalogue → Type 0
HalfInto m c (Ok p) d = FreshFor m c → HalfFound m (Ok p) d
HalfInto m c (Err Dark) d = ⊥
HalfInto m c (Err WrongSize) d = ⊥
HalfInto m c (Err BadLabel) d = ⊥
HalfInto m c (Err (BadEntry b)) d = FreshFor m c → HalfFound m (Err (BadEntry b)) d

abbrev pub HalfRead : Meaning → Label → Catalogue → Result Place LoadError → Catalogue → Type 0
HalfRead m l c r d = CardSized m → m.lit ≡ true → Labels m.blocks (m.present 0) (half_of l) → HalfInto m c r d

-- The whole call. Before the label is read, the catalogue stays as it is; then it is emptied, and is that of a card of as many blocks.
abbrev pub Loaded : Meaning → Catalogue → Result Place LoadError → Catalogue → Type 0
Loaded m c (Ok p) d = CardSized m × (m.lit ≡ true) × HalfFound m (Ok p) d
Loaded m c (Err Dark) d = CardSized m × (m.lit ≡ false) × (d ≡ c)
Loaded m c (Err WrongSize) d = ((m.blocks < 130) ⊎ (65536 < m.blocks)) × (d ≡ c)
Loaded m c (Err BadLabel) d = CardSized m × (m.lit ≡ true) × ((h : Half) → Labels m.blocks (m.present 0) h → ⊥) × (d ≡ c)
Loaded m c (Err (BadEntry b)) d = CardSized m × (m.lit ≡ true) × HalfFound m (Err (BadEntry b)) d
