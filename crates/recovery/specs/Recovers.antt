-- What loading finds of a card that is backed, and what a restart and a load find after a power cut.
use Rattle.std.specs.Prelude.{◌≡◌, true, List, ◌∷◌, Ok, Err, Result}
use Rattle.disk.specs.Meaning.{Meaning, Restarted}
use Rattle.model.specs.Plain.{Entry}
use Rattle.model.specs.Standing.{Standing}
use Rattle.catalogue.specs.declared.catalogues.Catalogue.{Catalogue}
use Rattle.catalogue.specs.Whole.{catalogue_of}
use Rattle.card.specs.Label.{Half}
use Rattle.journal.specs.Appends.{Ready}
use Rattle.journal.specs.Backed.{Backed}
use Rattle.recovery.specs.Loaded.{Loaded}
use Rattle.journal.specs.Steps.{alone, Found, BeforeOrAfter}
use Rattle.journal.specs.View.{standing_of}
use Rattle.journal.specs.declared.place.Place.{Place}
use Rattle.recovery.specs.declared.loading.LoadError.{LoadError}

-- A load is done, with the catalogue and the place of this standing.
abbrev pub LoadsAs : Standing → Result Place LoadError → Catalogue → Type 0
LoadsAs s (Ok p) d = standing_of (catalogue_of d) p ≡ s
LoadsAs s (Err e) d = ⊥

-- A lit disk whose contents are backed by a standing is loaded as that.
abbrev pub BackedLoads : Meaning → Result Place LoadError → Catalogue → Type 0
BackedLoads m r d = (h : Half) (s : Standing) → m.lit ≡ true → Backed m.blocks (alone m.present) h s → LoadsAs s r d

-- One of these standings.
pub data Among : List Standing → Standing → Type 0 where
  here : {s : Standing} {ss : List Standing} → Among (s ∷ ss) s
  there : {s t : Standing} {ss : List Standing} → Among ss t → Among (s ∷ ss) t

-- The recovery is done, with a standing of this kind, and the card is ready for the next entry.
abbrev pub Recovers : Meaning → (Standing → Type 0) → Result Place LoadError → Catalogue → Type 0
Recovers m Allowed (Ok p) d = Allowed (standing_of (catalogue_of d) p) × Ready m d p
Recovers m Allowed (Err e) d = ⊥

-- The disk was restarted and then loaded. A card that was backed by a standing is found as it was; after a cut in an entry, the catalogue is found as it
-- was before the entry or as it is after it; and of whatever standings a restart may find, one is found.
pub record Recovered (m : Meaning) (c : Catalogue) (r : Result Place LoadError) (m' : Meaning) (d : Catalogue) : Type 0 where
  pub restarted : Restarted m m'
  pub loaded : Loaded m' c r d
  pub whole : (h : Half) (s : Standing) → Backed m.blocks m.may h s → Recovers m' (λ t. t ≡ s) r d
  pub cut : (s : Standing) (e : Entry) → Found m (BeforeOrAfter s e) → Recovers m' (BeforeOrAfter s e) r d
  pub any : (ss : List Standing) → Found m (Among ss) → Recovers m' (Among ss) r d
