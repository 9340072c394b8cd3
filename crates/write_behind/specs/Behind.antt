-- A disk with blocks held back in front of it: what it means, and what is held.
use Rattle.std.specs.Prelude.{◌≡◌, ℕ, suc, ◌<◌, ◌≤◌, Bool, true, false, cond, ◌⊎◌, List, [], ◌∷◌, ◌++◌, length, drop, Some, None, Option, ◌==◌, ◌≢◌, slice_set}
use Rattle.disk.specs.Meaning.{Block, Meaning}
use Rattle.write_behind.specs.declared.held.Pending.{Pending}

-- The content of block k where it is x below: what is held for it, if anything.
abbrev pub overlaid : ℕ → Block → List Pending → Block
overlaid k x [] = x
overlaid k x (p ∷ ps) = overlaid k (cond (p.at == k) p.content x) ps

-- The content y is held for block k.
abbrev pub Held : ℕ → Block → List Pending → Type 0
Held k y [] = ⊥
Held k y (p ∷ ps) = ((p.at ≡ k) × (p.content ≡ y)) ⊎ Held k y ps

-- The meaning of a disk m with ps held back: a cut may find what m may be found with, or what is held.
abbrev pub behind : Meaning → List Pending → Meaning
behind m ps = record {
  blocks = m.blocks;
  lit = m.lit;
  present = λ k. overlaid k (m.present k) ps;
  may = λ k y. m.may k y ⊎ Held k y ps;
}

-- Nothing is held for block b.
abbrev pub Free : ℕ → List Pending → Type 0
Free b [] = Unit {0}
Free b (p ∷ ps) = (p.at ≢ b) × Free b ps

-- Place i is the last one that is held for block b.
abbrev pub Last : ℕ → List Pending → ℕ → Type 0
Last b [] i = ⊥
Last b (p ∷ ps) i = ((i ≡ 0) × (p.at ≡ b) × Free b ps) ⊎ ((j : ℕ) × ((i ≡ suc j) × Last b ps j))

-- Where block b is held.
abbrev pub Place : ℕ → List Pending → Option ℕ → Type 0
Place b ps (Some i) = Last b ps i
Place b ps None = Free b ps

-- p holds x back for block b.
abbrev pub Holds : ℕ → Block → Pending → Type 0
Holds b x p = (p.at ≡ b) × (p.content ≡ x)

-- What is held for block b is replaced by x, in its place.
abbrev pub Replaced : ℕ → Block → List Pending → List Pending → Type 0
Replaced b x ps qs = (i : ℕ) × ((p : Pending) × (Last b ps i × Holds b x p × (qs ≡ slice_set ps i p)))

-- x is held for block b as the newest.
abbrev pub Added : ℕ → Block → List Pending → List Pending → Type 0
Added b x ps qs = (p : Pending) × (Holds b x p × (qs ≡ ps ++ (p ∷ [])))

-- The longest-held of sixteen has to go before another block can be held.
abbrev pub Overflow : List Pending → Option Pending → Type 0
Overflow ps (Some p) = (ps ≡ p ∷ drop 1 ps) × (length ps ≡ 16)
Overflow ps None = length ps < 16

-- A block replaced where it is held: whether it is, and what is held after.
abbrev pub Replace : ℕ → Block → List Pending → Bool → List Pending → Type 0
Replace b x ps true qs = Replaced b x ps qs
Replace b x ps false qs = Free b ps × (qs ≡ ps)

-- Every held block is one of the n blocks of the disk below.
abbrev pub Inside : ℕ → List Pending → Type 0
Inside n [] = Unit {0}
Inside n (p ∷ ps) = (p.at < n) × Inside n ps

-- No block is held twice.
abbrev pub Apart : List Pending → Type 0
Apart [] = Unit {0}
Apart (p ∷ ps) = Free p.at ps × Apart ps

-- What is held is in order: it is at most sixteen blocks of the disk below, each once. So it is from the making on.
pub record Orderly (n : ℕ) (ps : List Pending) : Type 0 where
  pub few : length ps ≤ 16
  pub inside : Inside n ps
  pub apart : Apart ps
