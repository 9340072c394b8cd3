-- A catalogue with the journal's place: what an open finds.
use Rattle.std.specs.Prelude.{ℕ, ◌+◌, Bool, cond, length, ◌==◌}
use Rattle.model.specs.Plain.{Catalogue, Entry}
use Rattle.model.specs.Fits.{after}
use Rattle.model.specs.Listing.{listing}

-- Where the journal stands: the first number of the half in use, and how many of its 64 positions are used.
pub record Place : Type 0 where
  pub first : ℕ
  pub used : ℕ

-- A catalogue as an open finds it, with the journal's place.
pub record Standing : Type 0 where
  pub catalogue : Catalogue
  pub place : Place

-- The number of the next entry.
abbrev pub next_number : Place → ℕ
next_number place = place.first + place.used

-- The half is full: the next entry first begins the other half with the catalogue's listing, numbered on.
abbrev pub full : Place → Bool
full place = place.used == 64

abbrev pub moved : Standing → Standing
moved s = record { catalogue = s.catalogue; place = record { first = s.place.first + 64; used = length (listing s.catalogue) } }

-- The standing from which an entry is written, and the one that it leaves.
abbrev pub ready : Standing → Standing
ready s = cond (full s.place) (moved s) s

abbrev pub entered : Standing → Entry → Standing
entered s e = record { catalogue = after s.catalogue e; place = record { first = (ready s).place.first; used = (ready s).place.used + 1 } }
