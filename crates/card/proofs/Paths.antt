-- A path as it is written: field after field, each above those before it.
use Rattle.std.proofs.Common.{◌≡◌, ℕ, ◌+◌, ◌*◌, ◌≤◌, List, [], ◌∷◌, length, take, drop, ◌∙◌, arith}
use Rattle.std.proofs.lemmas.List.{take-take}
use Rattle.model.specs.Plain.{Path, register}
use Rattle.card.specs.Fields.{Zero, field, first_block_field, hash_field, kind_field, name_length_field, reference_count_field, size_field}
use Rattle.card.specs.Entries.{Clean, Says}
use Rattle.card.specs.Written.{Wrote, WroteHashes, WroteNumber}
use Rattle.card.proofs.Writes.{as_wide, below_both, field_below, one_byte, read_below, zero_below, zero_less, zero_past}

module _
    (p : Path)
    (blank one two three four five six seven eight : List ℕ)
    (zeros : Zero 0 256 blank)
    (whole : length p.hash ≡ 20)
    (short : length p.name ≤ 24)
    (kind : Wrote (field 0 1) (1 ∷ []) blank one)
    (hash : Wrote (field 1 (length p.hash)) p.hash one two)
    (name_length : Wrote (field 21 1) (length p.name ∷ []) two three)
    (name : Wrote (field 22 (length p.name)) p.name three four)
    (size : WroteNumber (field 46 4) p.size four five)
    (first_block : WroteNumber (field 50 4) p.first five six)
    (reference_count : Wrote (field 54 1) (length p.refs ∷ []) six seven)
    (references : WroteHashes p.refs seven eight) where
  -- What stands below a field is as it was when all that follows is written.
  from_seven : take 55 eight ≡ take 55 seven
  from_seven = references.kept.below

  from_six : take 54 eight ≡ take 54 six
  from_six = below_both six seven eight 54 55 (omega arith) reference_count.kept.below from_seven

  from_five : take 50 eight ≡ take 50 five
  from_five = below_both five six eight 50 54 (omega arith) first_block.kept.below from_six

  from_four : take 46 eight ≡ take 46 four
  from_four = below_both four five eight 46 50 (omega arith) size.kept.below from_five

  from_three : take 22 eight ≡ take 22 three
  from_three = below_both three four eight 22 46 (omega arith) name.kept.below from_four

  from_two : take 21 eight ≡ take 21 two
  from_two = below_both two three eight 21 22 (omega arith) name_length.kept.below from_three

  from_one : take 1 eight ≡ take 1 one
  from_one = below_both one two eight 1 21 (omega arith) hash.kept.below from_two

  pub path_says : Says eight (register p)
  path_says = (
    read_below kind_field one eight 1 (omega arith) from_one ∙ one_byte kind_field one 1 kind.here,
    record {
      hash = field_below hash_field two eight 21 (omega arith) from_two ∙ as_wide 1 two p.hash 20 whole hash.here;
      name_length = read_below name_length_field three eight 22 (omega arith) from_three ∙ one_byte name_length_field three (length p.name) name_length.here;
      name =
          take-take (length p.name) 24 (drop 22 eight) short
          ∙ field_below (field 22 (length p.name)) four eight 46 (omega arith) from_four ∙ name.here;
      size = read_below size_field five eight 50 (omega arith) from_five ∙ size.here;
      first_block = read_below first_block_field six eight 54 (omega arith) from_six ∙ first_block.here;
      reference_count =
          read_below reference_count_field seven eight 55 (omega arith) from_seven ∙ one_byte reference_count_field seven (length p.refs) reference_count.here;
      references = references.here;
    },
  )

  -- Past what is written all is zero.
  from_name : Zero (22 + length p.name) 256 four
  from_name =
      let n = length p.name in
      zero_past three four (22 + n) 256 22 (22 + n) (omega arith) name.kept
      (zero_past two three (22 + n) 256 21 22 (omega arith) name_length.kept
      (zero_past one two (22 + n) 256 1 (1 + length p.hash) (omega arith) hash.kept
      (zero_past blank one (22 + n) 256 0 1 (omega arith) kind.kept (zero_less blank 0 256 (22 + n) 256 (omega arith) (omega arith) zeros))))

  from_references : Zero (55 + 20 * length p.refs) 256 eight
  from_references =
      let end = 55 + 20 * length p.refs in
      zero_past seven eight end 256 55 end (omega arith) references.kept
      (zero_past six seven end 256 54 55 (omega arith) reference_count.kept
      (zero_past five six end 256 50 54 (omega arith) first_block.kept
      (zero_past four five end 256 46 50 (omega arith) size.kept (zero_less four (22 + length p.name) 256 end 256 (omega arith) (omega arith) from_name))))

  pub path_clean : Clean eight (register p)
  path_clean = (
    zero_below four eight (22 + length p.name) 46 46 (omega arith) from_four
        (zero_less four (22 + length p.name) 256 (22 + length p.name) 46 (omega arith) (omega arith) from_name),
    zero_less eight (55 + 20 * length p.refs) 256 (55 + 20 * length p.refs) 240 (omega arith) (omega arith) from_references,
  )
