-- The fields of a block: each one's place and width, stated once. Writing and reading are both held to them.
use Rattle.std.specs.Prelude.{◌≡◌, ℕ, ◌+◌, ◌*◌, ◌<◌, ◌≤◌, List, take, drop, codes, slice_index}
use Rattle.naming.specs.Digits.{value}

-- A field begins at a byte of the block and has a number of bytes.
pub record Field : Type 0 where
  pub at : ℕ
  pub width : ℕ

-- The bytes of a field, and the number that they are, the lowest byte first.
abbrev pub get : Field → List ℕ → List ℕ
get f block = take f.width (drop f.at block)

abbrev pub read : Field → List ℕ → ℕ
read f block = value 256 (get f block)

abbrev pub field : ℕ → ℕ → Field
field at width = record { at = at; width = width }

-- Of every entry.
abbrev pub kind_field : Field
kind_field = field 0 1

abbrev pub number_field : Field
number_field = field 240 8

abbrev pub back_field : Field
back_field = field 248 4

abbrev pub mark_field : Field
mark_field = field 252 4

-- Of an entry that registers a path, and of one that removes it.
abbrev pub hash_field : Field
hash_field = field 1 20

abbrev pub name_length_field : Field
name_length_field = field 21 1

abbrev pub name_field : Field
name_field = field 22 24

abbrev pub size_field : Field
size_field = field 46 4

abbrev pub first_block_field : Field
first_block_field = field 50 4

abbrev pub reference_count_field : Field
reference_count_field = field 54 1

abbrev pub reference_field : ℕ → Field
reference_field k = field (55 + 20 * k) 20

-- Of an entry that commits, switches to or forgets a generation.
abbrev pub profile_field : Field
profile_field = field 1 1

abbrev pub generation_field : Field
generation_field = field 2 4

abbrev pub committed_field : Field
committed_field = field 6 20

-- Of the label; its mark is where an entry's is.
abbrev pub card_size_field : Field
card_size_field = field 232 4

abbrev pub began_with_field : Field
began_with_field = field 236 4

abbrev pub first_number_field : Field
first_number_field = field 240 8

abbrev pub half_field : Field
half_field = field 248 4

-- The marks.
abbrev pub entry_mark : List ℕ
entry_mark = codes "ENTR"

abbrev pub label_mark : List ℕ
label_mark = codes "LABL"

-- Bytes that are not used are zero.
abbrev pub Zero : ℕ → ℕ → List ℕ → Type 0
Zero from to block = (k : ℕ) → from ≤ k → k < to → slice_index block k ≡ 0
