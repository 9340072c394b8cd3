-- A catalogue as the model's plain data.
use Rattle.std.specs.Prelude.{◌≡◌, vec_items}
use Rattle.model.specs.Fits.{after}
use Rattle.model.specs.Plain as plain
use Rattle.catalogue.specs.View.{catalogue_from}
use Rattle.catalogue.specs.declared.catalogues.Catalogue.{Catalogue}

abbrev pub catalogue_of : Catalogue → plain.Catalogue
catalogue_of c = catalogue_from (vec_items c.paths) c.profiles

-- The catalogue c became what the entry makes of it.
abbrev pub Becomes : Catalogue → plain.Entry → Catalogue → Type 0
Becomes c e d = (catalogue_of d ≡ after (catalogue_of c) e) × (d.blocks ≡ c.blocks)
