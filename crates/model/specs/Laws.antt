-- The laws of the catalogue.
use Rattle.std.specs.Prelude.{ℕ, ◌≤◌, List, length}
use Rattle.model.specs.Plain.{Bytes, Catalogue, Entry, nothing}
use Rattle.model.specs.Fits.{Fits, after, Makes, Sound, Registered}
use Rattle.model.specs.Listing.{listing}
use Rattle.model.specs.Closure.{Closure}

-- Nothing is sound, and every fitting entry keeps a catalogue sound.
abbrev pub KeepsSound : Type 0
KeepsSound = (n : ℕ) → Sound n nothing × ((cat : Catalogue) (e : Entry) → Sound n cat → Fits n cat e → Sound n (after cat e))

-- Every catalogue that entries make is sound.
abbrev pub MakesSound : Type 0
MakesSound = (n : ℕ) (entries : List Entry) (cat : Catalogue) → Makes n entries cat → Sound n cat

-- From nothing, the listing of a sound catalogue makes exactly that catalogue, in at most 61 entries.
abbrev pub ListingMakes : Type 0
ListingMakes = (n : ℕ) (cat : Catalogue) → Sound n cat → Makes n (listing cat) cat × (length (listing cat) ≤ 61)

-- What a registered path needs is registered.
abbrev pub NeedsRegistered : Type 0
NeedsRegistered = (n : ℕ) (cat : Catalogue) (h q : Bytes) → Sound n cat → Registered cat h → Closure cat.paths h q → Registered cat q
