-- Whether other paths refer to a path.
use Rattle.std.specs.Prelude.{◌≡◌, ℕ, ◌<◌, true, List, length, get_or, slice_index_or}
use Rattle.model.specs.Plain.{Bytes, Path, no_path}
use Rattle.model.specs.Fits.{refers}

-- Only the path of this hash itself refers to it, if any.
abbrev pub Unneeded : List Path → Bytes → Type 0
Unneeded paths h = (k : ℕ) → k < length paths → refers (slice_index_or paths k no_path) h ≡ true → (get_or paths k no_path).hash ≡ h
