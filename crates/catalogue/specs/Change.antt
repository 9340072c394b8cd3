-- What one change makes of a list of elements that a test tells apart.
use Rattle.std.specs.Prelude.{◌≡◌, ℕ, ◌<◌, Bool, true, not, List, length, filter, slice_index_or}

-- At most one element passes.
abbrev pub Single : {X : Type 0} → (X → Bool) → X → List X → Type 0
Single test d xs = (i j : ℕ) → i < length xs → j < length xs → test (slice_index_or xs i d) ≡ true → test (slice_index_or xs j d) ≡ true → i ≡ j

-- If at most one element passed, then those that did not are left.
abbrev pub Taken : {X : Type 0} → (X → Bool) → X → List X → List X → Type 0
Taken test d xs ys = Single test d xs → ys ≡ filter (λ x. not (test x)) xs
