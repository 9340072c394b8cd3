-- Rows of paths that refer to one another.
use Rattle.std.specs.Prelude.{◌≡◌, ℕ, ◌<◌, true, List, length, get_or, slice_index_or}
use Rattle.model.specs.Plain.{Bytes, Path, no_path}
use Rattle.model.specs.Fits.{refers}
use Rattle.model.specs.Closure.{Closure}

abbrev pub hash_at : List Path → ℕ → Bytes
hash_at paths k = (get_or paths k no_path).hash

-- The path in row i refers to the one in row k.
pub record Leads (paths : List Path) (i k : ℕ) : Type 0 where
  pub from : i < length paths
  pub to : k < length paths
  pub refers_to : refers (slice_index_or paths i no_path) (hash_at paths k) ≡ true

-- The path in row k is in the closure of the one in row i.
pub record Needs (paths : List Path) (i k : ℕ) : Type 0 where
  pub from : i < length paths
  pub to : k < length paths
  pub within : Closure paths (hash_at paths i) (hash_at paths k)
