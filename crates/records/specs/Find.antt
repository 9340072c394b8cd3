-- What a search by a test answers.
use Rattle.std.specs.Prelude.{◌≡◌, ℕ, ◌<◌, Bool, true, false, List, length, Some, None, Option, nat_eq, slice_index_or}
use Rattle.std.specs.Str.{bytes_eq}
use Rattle.model.specs.Plain.{Bytes, Path, Generation}
use Rattle.model.specs.Fits.{any}

-- The first element that passes, by its place, or none where none passes.
abbrev pub Finds : {X : Type 0} → (X → Bool) → List X → Option ℕ → Type 0
Finds test xs None = any test xs ≡ false
Finds {X} test xs (Some i) =
    (i < length xs) × ((d : X) → test (slice_index_or xs i d) ≡ true) × ((k : ℕ) (d : X) → k < i → test (slice_index_or xs k d) ≡ false)

-- The row of the path of this hash; the place of the generation of this number.
abbrev pub RowOf : List Path → Bytes → Option ℕ → Type 0
RowOf paths h r = Finds (λ p. bytes_eq p.hash h) paths r

abbrev pub PlaceOf : List Generation → ℕ → Option ℕ → Type 0
PlaceOf gens k r = Finds (λ g. nat_eq g.number k) gens r
