-- A catalogue kept in step with its journal: what an entry and a card made new do to both, wherever the power fails.
use Rattle.std.specs.Prelude.{◌≡◌, ◌-◌, ◌^◌, ◌<◌, ◌≤◌, false, ◌⊎◌, Ok, Err, Result}
use Rattle.disk.specs.declared.Fault.{Fault}
use Rattle.disk.specs.declared.Fault.TheVariants.{Dark, NoBlock}
use Rattle.disk.specs.Meaning.{Meaning, Restarted}
use Rattle.model.specs.Plain.{Entry}
use Rattle.model.specs.Fits.{Fits}
use Rattle.model.specs.Standing as model
use Rattle.model.specs.Standing.{next_number}
use Rattle.catalogue.specs.declared.catalogues.Catalogue.{Catalogue}
use Rattle.catalogue.specs.Whole.{Becomes, catalogue_of}
use Rattle.journal.specs.Appends.{Ready, AppendCut}
use Rattle.journal.specs.Formats.{DataFound, FormatCut, new_standing}
use Rattle.journal.specs.Steps.{DataKept, CardSized}
use Rattle.journal.specs.View.{place_of, standing_of}
use Rattle.journal.specs.declared.place.Place.{Place}
use Rattle.journal.specs.declared.appending.AppendError.{AppendError}
use Rattle.journal.specs.declared.appending.AppendError.TheVariants.{NumbersSpent as AppendNumbersSpent, Failed as AppendFailed}
use Rattle.journal.specs.declared.formatting.FormatError.{FormatError}
use Rattle.journal.specs.declared.formatting.FormatError.TheVariants.{WrongSize, Failed as FormatFailed}
use Rattle.journal.specs.declared.keeping.EntryError.{EntryError}
use Rattle.journal.specs.declared.keeping.EntryError.TheVariants.{Unfit, NumbersSpent, Failed}

-- Done, the catalogue and the place have moved on with the card.
pub record Entered (m : Meaning) (c : Catalogue) (p : Place) (e : Entry) (m' : Meaning) (d : Catalogue) (p' : Place) : Type 0 where
  pub ready : Ready m' d p'
  pub kept : DataKept m m'
  pub standing : standing_of (catalogue_of d) p' ≡ model.entered (standing_of (catalogue_of c) p) e

-- The disk failed: it is dark, and a restart finds the catalogue before or after the entry.
abbrev pub Broken : Meaning → Catalogue → Place → Entry → Fault → Meaning → Type 0
Broken m c p e Dark m' = Ready m c p → AppendCut m (catalogue_of c) p e m'
Broken m c p e NoBlock m' = Ready m c p → ⊥

-- An entry that fits, with a number that leaves room.
abbrev pub Fitting : Catalogue → Entry → Type 0
Fitting c e = Fits c.blocks (catalogue_of c) e

abbrev pub Numbered : Place → Type 0
Numbered p = next_number (place_of p) ≤ 2 ^ 62 - 128

-- The same error where an entry is also applied.
abbrev pub entry_error_of : AppendError → EntryError
entry_error_of AppendNumbersSpent = NumbersSpent
entry_error_of (AppendFailed fault) = Failed fault

-- The whole call. Refused where the entry does not fit or the numbers are spent; and whatever it is refused for, catalogue and place are as they were.
abbrev pub AppendedApplied : Meaning → Catalogue → Place → Entry → Result Unit EntryError → Meaning → Catalogue → Place → Type 0
AppendedApplied m c p e (Ok _) m' d p' = Fitting c e × Numbered p × Becomes c e d × (Ready m c p → Entered m c p e m' d p')
AppendedApplied m c p e (Err Unfit) m' d p' = (Fitting c e → ⊥) × (d ≡ c) × (p' ≡ p)
AppendedApplied m c p e (Err NumbersSpent) m' d p' = Fitting c e × (Numbered p → ⊥) × (d ≡ c) × (p' ≡ p)
AppendedApplied m c p e (Err (Failed fault)) m' d p' = Fitting c e × Numbered p × (d ≡ c) × (p' ≡ p) × Broken m c p e fault m'

-- What is refused before anything is written.
abbrev pub Unwritten : Result Unit EntryError → Type 0
Unwritten r = (r ≡ Err Unfit) ⊎ (r ≡ Err NumbersSpent)

-- Done, the card and the catalogue are empty, and ready for the first entry. Whatever it is refused for, the catalogue is as it was.
abbrev pub FormattedCleared : Meaning → Catalogue → Result Place FormatError → Meaning → Catalogue → Type 0
FormattedCleared m c (Ok p) m' d = CardSized m × Ready m' d p × (standing_of (catalogue_of d) p ≡ new_standing) × DataFound m m'
FormattedCleared m c (Err WrongSize) m' d = (d ≡ c) × ((m.blocks < 130) ⊎ (65536 < m.blocks)) × Restarted m m'
FormattedCleared m c (Err (FormatFailed Dark)) m' d = (d ≡ c) × CardSized m × (m'.lit ≡ false) × DataFound m m' × FormatCut m m'
FormattedCleared m c (Err (FormatFailed NoBlock)) m' d = ⊥
