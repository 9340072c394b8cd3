-- What a search for the greatest element answers.
use Rattle.std.specs.Prelude.{ℕ, ◌<◌, ◌≤◌, List, length, Some, None, Option, slice_index_or}
use Rattle.std.specs.declared.cmp.Ordering.{Ordering}
use Rattle.order.specs.Law.{After}

module _ {X : Type 0} (cmp : X → X → Ordering) (xs : List X) (looked : ℕ → Type 0) where
  -- Place i is looked at.
  abbrev pub Seen : ℕ → Type 0
  Seen i = (i < length xs) × looked i

  -- Place i is looked at, and no element that is looked at comes after the one there.
  abbrev pub Top : ℕ → Type 0
  Top i = Seen i × ((k : ℕ) (d : X) → Seen k → After cmp (slice_index_or xs k d) (slice_index_or xs i d) → ⊥)

  -- The first place with a greatest element, or none where no place is looked at.
  abbrev pub Greatest : Option ℕ → Type 0
  Greatest None = (k : ℕ) → Seen k → ⊥
  Greatest (Some i) = Top i × ((k : ℕ) → Top k → i ≤ k)
