-- The order of two hashes.
use Rattle.std.specs.Prelude.{◌≡◌, ℕ, ◌+◌, ◌*◌, ◌^◌, List, Decides}
use Rattle.std.specs.declared.cmp.Ordering.{Ordering}
use Rattle.std.specs.Ordering.{is_eq}
use Rattle.naming.specs.Hash.{Orders, hash_part, number_of, text_order}
use Rattle.naming.specs.declared.hash.Hash.{Hash}

-- It is the byte order of the hash parts, which is the order of the numbers, and it tells apart hashes that differ.
pub record HashOrder (g h : Hash) (o : Ordering) : Type 0 where
  pub parts : o ≡ text_order (hash_part g.bytes) (hash_part h.bytes)
  pub numbers : Orders o (number_of g.bytes) (number_of h.bytes)
  pub same : Decides (is_eq o) (g ≡ h)

-- The number of a hash in two parts, the higher first.
abbrev pub InParts : List ℕ → ℕ × ℕ → Type 0
InParts h parts = number_of h ≡ parts.0 * 2 ^ 128 + parts.1
