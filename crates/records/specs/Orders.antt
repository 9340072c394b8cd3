-- The two orders: paths by hash part, generations by number.
use Rattle.std.specs.Prelude.{ℕ, ◌<◌, List, length, slice_index_or}
use Rattle.std.specs.declared.cmp.Ordering.{Ordering}
use Rattle.std.specs.Ordering.{nat_cmp}
use Rattle.naming.specs.Hash.{hash_part, text_order}
use Rattle.model.specs.Plain as plain
use Rattle.records.specs.declared.records.PathRecord.{PathRecord}
use Rattle.records.specs.declared.records.Generation.{Generation}

-- The byte order of the hash parts.
abbrev pub by_hash : PathRecord → PathRecord → Ordering
by_hash a b = text_order (hash_part a.hash.bytes) (hash_part b.hash.bytes)

abbrev pub by_number : Generation → Generation → Ordering
by_number a b = nat_cmp a.number b.number

-- A number above those of all generations.
abbrev pub Above : List plain.Generation → ℕ → Type 0
Above gens n = (k : ℕ) → k < length gens → (slice_index_or gens k plain.no_generation).number < n
