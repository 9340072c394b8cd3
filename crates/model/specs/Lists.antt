-- Lists of which each element fits after those before it.
use Rattle.std.specs.Prelude.{ℕ, ◌<◌, List, length, take, slice_index_or}

-- Each element is one that may follow the elements before it.
abbrev pub Chain : {A : Type 0} → (List A → A → Type 0) → A → List A → Type 0
Chain Next d xs = (i : ℕ) → i < length xs → Next (take i xs) (slice_index_or xs i d)
