-- What the blocks of a card may be found with, so that every restart finds the catalogue. `may k` is the set of contents of block k.
use Rattle.std.specs.Prelude.{◌≡◌, ℕ, ◌+◌, ◌-◌, ◌<◌, ◌≤◌, ◌⊎◌, List, length, slice_index_or}
use Rattle.model.specs.Plain.{Entry}
use Rattle.model.specs.Fits.{Makes}
use Rattle.model.specs.Listing.{listing}
use Rattle.model.specs.Standing.{Standing, next_number}
use Rattle.card.specs.Fields.{read, number_field}
use Rattle.card.specs.Entries.{Says, Marked}
use Rattle.card.specs.Label.{Half, InRange, Labels}
use Rattle.journal.specs.Blocks.{before, no_entry}

abbrev pub Sets : Type 1
Sets = ℕ → List ℕ → Type 0

-- The other half's first block.
abbrev pub other : ℕ → ℕ
other start = 66 - start

-- A block that is this entry of a half.
pub record IsEntry (block : List ℕ) (h : Half) (i : ℕ) (e : Entry) : Type 0 where
  pub marked : Marked block (h.first + i) (before h.start i)
  pub says : Says block e

-- A block whose number is below the next one: it counts in no journal that is to come.
abbrev pub Old : ℕ → List ℕ → Type 0
Old next block = read number_field block < next

-- The half that a change of halves begins: the listing's entries, numbered on.
abbrev pub next_half : Half → Standing → Half
next_half h s = record { count = length (listing s.catalogue); first = h.first + 64; start = other h.start }

-- The card is backed by a standing, in this half.
pub record Backed (n : ℕ) (may : Sets) (h : Half) (s : Standing) : Type 0 where
  pub size : (130 ≤ n) × (n ≤ 65536)
  pub range : InRange h
  pub first : h.first ≡ s.place.first
  pub used : s.place.used ≤ 64
  pub enough : h.count ≤ s.place.used
  pub entries : List Entry
  pub long : length entries ≡ s.place.used
  pub makes : Makes n entries s.catalogue
  -- every content that the label may be found with names the half
  pub label : (y : List ℕ) → may 0 y → Labels n y h
  -- every content of a used position is its entry; at every other position no content counts
  pub written : (i : ℕ) (y : List ℕ) → i < s.place.used → may (h.start + i) y → IsEntry y h i (slice_index_or entries i no_entry)
  pub free : (i : ℕ) (y : List ℕ) → s.place.used ≤ i → i < 64 → may (h.start + i) y → Old (next_number s.place) y
  -- the other half is old, or holds the checkpoint's entries in their places where the half is full
  pub rest : (i : ℕ) (y : List ℕ) → i < 64 → may (other h.start + i) y
      → Old (next_number s.place) y ⊎ ((s.place.used ≡ 64) × (i < length (listing s.catalogue)) × IsEntry y (next_half h s) i (slice_index_or (listing s.catalogue) i no_entry))
