-- The number that digits write, in any base.
use Rattle.std.specs.Prelude.{ℕ, ◌+◌, ◌*◌, ◌<◌, List, [], ◌∷◌, slice_index}

-- Digit i has the weight base ^ i: the lowest digit stands first.
abbrev pub value : ℕ → List ℕ → ℕ
value base [] = 0
value base (d ∷ ds) = d + base * value base ds

-- Each digit is below the base.
abbrev pub EachBelow : ℕ → List ℕ → Type 0
EachBelow base ds = (k : ℕ) → slice_index ds k < base
