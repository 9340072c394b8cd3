-- Free runs: where a new content may lie.
use Rattle.std.specs.Prelude.{ℕ, ◌+◌, ◌<◌, ◌≤◌, List, length, slice_index_or}
use Rattle.model.specs.Plain.{Span}
use Rattle.model.specs.Fits.{Apart}

abbrev pub nowhere : Span
nowhere = record { start = 0; count = 0 }

-- The run lies in the data and meets none of those taken.
pub record Free (n : ℕ) (taken : List Span) (s : Span) : Type 0 where
  pub low : 129 ≤ s.start
  pub high : s.start + s.count ≤ n
  pub apart : (k : ℕ) → k < length taken → Apart s (slice_index_or taken k nowhere)

-- The free run with the greatest first block.
pub record LastFree (n : ℕ) (taken : List Span) (count start : ℕ) : Type 0 where
  pub free : Free n taken (record { start = start; count = count })
  pub last : (x : ℕ) → Free n taken (record { start = x; count = count }) → x ≤ start
