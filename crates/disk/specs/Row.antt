-- A row of bytes, read and written by blocks of 256.
use Rattle.std.specs.Prelude.{◌≡◌, ℕ, ◌+◌, ◌*◌, ◌/◌, ◌<◌, ◌≤◌, List, ◌++◌, length, take, drop, Ok, Err, Result}
use Rattle.disk.specs.declared.Fault.{Fault}
use Rattle.disk.specs.declared.Fault.TheVariants.{Dark, NoBlock}
use Rattle.disk.specs.Meaning.{Block}

-- How many whole blocks a row has.
abbrev pub blocks_in : List ℕ → ℕ
blocks_in row = length row / 256

-- Block b of a row.
abbrev pub block_of : List ℕ → ℕ → Block
block_of row b = take 256 (drop (b * 256) row)

-- A row with block b replaced by x.
abbrev pub with_block : List ℕ → ℕ → Block → List ℕ
with_block row b x = take (b * 256) row ++ (x ++ drop (b * 256 + 256) row)

-- A block copied out of a row: the buffer before it, the answer, and the buffer after it.
abbrev pub CopiedOut : List ℕ → ℕ → Block → Result Unit Fault → Block → Type 0
CopiedOut row b old (Ok _) new = (b < blocks_in row) × (new ≡ block_of row b)
CopiedOut row b old (Err Dark) new = ⊥
CopiedOut row b old (Err NoBlock) new = (blocks_in row ≤ b) × (new ≡ old)

-- A block copied into a row: the answer, and the row after it.
abbrev pub CopiedIn : List ℕ → ℕ → Block → Result Unit Fault → List ℕ → Type 0
CopiedIn row b x (Ok _) row' = (b < blocks_in row) × (row' ≡ with_block row b x)
CopiedIn row b x (Err Dark) row' = ⊥
CopiedIn row b x (Err NoBlock) row' = (blocks_in row ≤ b) × (row' ≡ row)
