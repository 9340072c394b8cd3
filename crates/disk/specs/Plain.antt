-- The plain image: a row of bytes that keeps each write at once and never goes dark.
use Rattle.std.specs.Prelude.{◌≡◌, ℕ, ◌^◌, min, true, List, Ok, Err, Result}
use Rattle.disk.specs.declared.Fault.{Fault}
use Rattle.disk.specs.Meaning.{Meaning, Block}
use Rattle.disk.specs.Row.{blocks_in, block_of, with_block}

-- The meaning of a plain image over a row: its whole blocks, 2 ^ 32 at most. Each is found as it is.
abbrev pub plain : List ℕ → Meaning
plain row = record {
  blocks = min (blocks_in row) (2 ^ 32);
  lit = true;
  present = block_of row;
  may = λ b x. x ≡ block_of row b;
}

-- The row after a write: the block replaced where it is done, and nothing else.
abbrev pub Stored : List ℕ → ℕ → Block → Result Unit Fault → List ℕ → Type 0
Stored row b x (Ok _) row' = row' ≡ with_block row b x
Stored row b x (Err _) row' = row' ≡ row
