-- What applying an entry does.
use Rattle.std.specs.Prelude.{◌≡◌, ℕ, List, Ok, Err, Result, codes}
use Rattle.model.specs.Plain as plain
use Rattle.model.specs.Fits.{Fits}
use Rattle.catalogue.specs.declared.catalogues.Catalogue.{Catalogue}
use Rattle.catalogue.specs.declared.applying.Unfit.{Unfit}
use Rattle.catalogue.specs.Whole.{Becomes, catalogue_of}

-- A fitting entry makes the next catalogue. Any other is refused, and nothing changes.
abbrev pub Applied : Catalogue → plain.Entry → Result (Unit {0}) Unfit → Catalogue → Type 0
Applied c e (Ok _) d = Fits c.blocks (catalogue_of c) e × Becomes c e d
Applied c e (Err _) d = (Fits c.blocks (catalogue_of c) e → ⊥) × (d ≡ c)

-- What is printed of an entry that does not fit.
abbrev pub unfit_text : List ℕ
unfit_text = codes "the entry does not fit the catalogue"
