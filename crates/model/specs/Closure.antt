-- What a path needs.
use Rattle.std.specs.Prelude.{◌≡◌, ℕ, ◌<◌, true, List, length, get_or, slice_index_or}
use Rattle.model.specs.Plain.{Bytes, Path, no_path}
use Rattle.model.specs.Fits.{refers}

-- The smallest set with the path and every reference of its members, by their hashes.
pub data Closure (paths : List Path) (h : Bytes) : Bytes → Type 0 where
  itself : Closure paths h h
  through : {r : Bytes} (k : ℕ) → k < length paths → Closure paths h (get_or paths k no_path).hash → refers (slice_index_or paths k no_path) r ≡ true → Closure paths h r
