-- An entry of the journal as one block.
use Rattle.std.specs.Prelude.{◌≡◌, ℕ, ◌+◌, ◌*◌, ◌<◌, List, [], length, take, slice_index_or}
use Rattle.model.specs.Plain.{Path, Entry, register, commit, switch, forget, remove}
use Rattle.card.specs.Fields.{get, read, kind_field, number_field, back_field, mark_field, hash_field, name_length_field, name_field, size_field, first_block_field, reference_count_field, reference_field, profile_field, generation_field, committed_field, entry_mark, Zero}

pub record SaysPath (block : List ℕ) (p : Path) : Type 0 where
  pub hash : get hash_field block ≡ p.hash
  pub name_length : read name_length_field block ≡ length p.name
  pub name : take (length p.name) (get name_field block) ≡ p.name
  pub size : read size_field block ≡ p.size
  pub first_block : read first_block_field block ≡ p.first
  pub reference_count : read reference_count_field block ≡ length p.refs
  pub references : (k : ℕ) → k < length p.refs → get (reference_field k) block ≡ slice_index_or p.refs k []

-- What entry a block says, by its kind.
abbrev pub Says : List ℕ → Entry → Type 0
Says block (register p) = (read kind_field block ≡ 1) × SaysPath block p
Says block (commit p k h) = (read kind_field block ≡ 2) × (read profile_field block ≡ p) × (read generation_field block ≡ k) × (get committed_field block ≡ h)
Says block (switch p k) = (read kind_field block ≡ 3) × (read profile_field block ≡ p) × (read generation_field block ≡ k)
Says block (forget p k) = (read kind_field block ≡ 4) × (read profile_field block ≡ p) × (read generation_field block ≡ k)
Says block (remove h) = (read kind_field block ≡ 5) × (get hash_field block ≡ h)

-- The bytes that an entry does not use are zero.
abbrev pub Clean : List ℕ → Entry → Type 0
Clean block (register p) = Zero (22 + length p.name) 46 block × Zero (55 + 20 * length p.refs) 240 block
Clean block (commit p k h) = Zero 26 240 block
Clean block (switch p k) = Zero 6 240 block
Clean block (forget p k) = Zero 6 240 block
Clean block (remove h) = Zero 21 240 block

-- A block is an entry with this number, after the one in this block.
pub record Marked (block : List ℕ) (k b : ℕ) : Type 0 where
  pub number : read number_field block ≡ k
  pub back : read back_field block ≡ b
  pub mark : get mark_field block ≡ entry_mark
