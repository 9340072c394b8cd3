-- The newest generation: the one with the greatest number.
use Rattle.std.specs.Prelude.{◌≡◌, ℕ, ◌<◌, ◌≤◌, List, length, Some, None, Option, slice_index_or}
use Rattle.model.specs.Plain.{Generation, no_generation}

-- The number of the generation in place k.
abbrev pub number_at : List Generation → ℕ → ℕ
number_at gens k = (slice_index_or gens k no_generation).number

-- The greatest number in the places of which P says so, or none where there is no such place.
abbrev pub GreatestNumber : List Generation → (ℕ → Type 0) → Option ℕ → Type 0
GreatestNumber gens P None = (k : ℕ) → k < length gens → P k → ⊥
GreatestNumber gens P (Some n) =
    (i : ℕ) × ((i < length gens) × P i × (number_at gens i ≡ n) × ((k : ℕ) → k < length gens → P k → number_at gens k ≤ n))

-- The greatest number of all, and the greatest of those below a number.
abbrev pub Newest : List Generation → Option ℕ → Type 0
Newest gens r = GreatestNumber gens (λ k. Unit {0}) r

abbrev pub NewestBelow : List Generation → ℕ → Option ℕ → Type 0
NewestBelow gens n r = GreatestNumber gens (λ k. number_at gens k < n) r
