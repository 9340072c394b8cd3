-- Room for a new content.
use Rattle.std.specs.Prelude.{◌≡◌, ℕ, ◌<◌, true, false, List, ◌++◌, map, length, Some, None, Option, slice_index_or}
use Rattle.model.specs.Plain.{Span, Path, run}
use Rattle.model.specs.Fits.{any}
use Rattle.model.specs.Free.{Free, LastFree, nowhere}
use Rattle.records.specs.declared.runs.Run.{Run}
use Rattle.records.specs.Runs.{meets, span_of}

-- The runs that are taken: those of the paths, and those that are half-built.
abbrev pub taken_by : List Path → List Run → List Span
taken_by paths building = map run paths ++ map span_of building

-- One of the taken runs that shares a block with s, or none where none does.
abbrev pub Met : List Span → Span → Option Run → Type 0
Met taken s None = any (meets s) taken ≡ false
Met taken s (Some t) = (k : ℕ) × ((k < length taken) × (slice_index_or taken k nowhere ≡ span_of t) × (meets s (span_of t) ≡ true))

-- The greatest first block of a free run of this many blocks, or none where no such run is free; at none, block 0.
abbrev pub FreeRun : ℕ → List Span → ℕ → Option ℕ → Type 0
FreeRun n taken count None = (0 < count) × ((x : ℕ) → Free n taken (record { start = x; count = count }) → ⊥)
FreeRun n taken count (Some x) = (count ≡ 0 → x ≡ 0) × (0 < count → LastFree n taken count x)
