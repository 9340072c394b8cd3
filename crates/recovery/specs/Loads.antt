-- What the journal on a card's blocks says. `f k` is the content of block k.
use Rattle.std.specs.Prelude.{◌≡◌, ℕ, ◌+◌, ◌<◌, ◌≤◌, ◌⊎◌, List, length, slice_index_or}
use Rattle.model.specs.Plain.{Catalogue, Entry}
use Rattle.model.specs.Fits.{Fits, Makes}
use Rattle.card.specs.Entries.{Says, Marked}
use Rattle.card.specs.Label.{Half, Labels}
use Rattle.journal.specs.Blocks.{Blocks, before, no_entry}

-- The entry at position i counts.
abbrev pub Counts : Blocks → Half → ℕ → Type 0
Counts f h i = Marked (f (h.start + i)) (h.first + i) (before h.start i)

-- The first entries of the half count, and say these.
pub record Reads (f : Blocks) (h : Half) (entries : List Entry) : Type 0 where
  pub room : length entries ≤ 64
  pub counts : (i : ℕ) → i < length entries → Counts f h i
  pub says : (i : ℕ) → i < length entries → Says (f (h.start + i)) (slice_index_or entries i no_entry)

-- The journal ends before the first entry that does not count, or after 64.
abbrev pub Ends : Blocks → Half → ℕ → Type 0
Ends f h used = (used ≡ 64) ⊎ (Counts f h used → ⊥)

-- A card that is whole: the label names a half, its entries make the catalogue, and they are no fewer than began the half.
pub record Whole (n : ℕ) (f : Blocks) (h : Half) (entries : List Entry) (cat : Catalogue) : Type 0 where
  pub label : Labels n (f 0) h
  pub reads : Reads f h entries
  pub ends : Ends f h (length entries)
  pub enough : h.count ≤ length entries
  pub makes : Makes n entries cat

-- A card that is damaged at position i: the entries before it are read and make the catalogue. The entry there counts, and says none that fits; or
-- it does not count, although the half began with more.
pub record Damaged (n : ℕ) (f : Blocks) (h : Half) (i : ℕ) (cat : Catalogue) : Type 0 where
  pub label : Labels n (f 0) h
  pub within : i < 64
  pub entries : List Entry
  pub long : length entries ≡ i
  pub reads : Reads f h entries
  pub makes : Makes n entries cat
  pub wrong : (Counts f h i × ((e : Entry) → Says (f (h.start + i)) e → Fits n cat e → ⊥)) ⊎ ((Counts f h i → ⊥) × (i < h.count))
