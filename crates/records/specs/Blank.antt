-- The bytes of a place that no hash is written in.
use Rattle.std.specs.Prelude.{ℕ, List, map, replicate}
use Rattle.naming.specs.declared.hash.Hash.{Hash}

abbrev pub blank : List ℕ
blank = replicate 20 0

abbrev pub bytes_each : List Hash → List (List ℕ)
bytes_each hashes = map (λ h. h.bytes) hashes
