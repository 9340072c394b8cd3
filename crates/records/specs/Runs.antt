-- Runs of blocks, and the test whether two of them share a block.
use Rattle.std.specs.Prelude.{◌≡◌, ℕ, ◌+◌, ◌<◌, Bool, true, ◌&&◌, ◌||◌, List, [], length, nat_lt, slice_index_or}
use Rattle.std.specs.Str.{bytes_eq}
use Rattle.model.specs.Plain.{Path, Span, no_path, run}
use Rattle.model.specs.Fits.{Apart, has_hash}
use Rattle.records.specs.declared.runs.Run.{Run}

abbrev pub span_of : Run → Span
span_of r = record { start = r.first; count = r.count }

-- Neither run is empty, and each starts before the other ends.
abbrev pub meets : Span → Span → Bool
meets s t = (nat_lt 0 s.count && nat_lt 0 t.count) && (nat_lt s.start (t.start + t.count) && nat_lt t.start (s.start + s.count))

-- The two rules of a registration that look at every other path.
abbrev pub ApartFromAll : List Path → Path → Type 0
ApartFromAll paths p = (k : ℕ) → k < length paths → Apart (run p) (run (slice_index_or paths k no_path))

abbrev pub KnownAll : List Path → Path → Type 0
KnownAll paths p =
    (k : ℕ) → k < length p.refs → (has_hash (slice_index_or p.refs k []) paths || bytes_eq p.hash (slice_index_or p.refs k [])) ≡ true
