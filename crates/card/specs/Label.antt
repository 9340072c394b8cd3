-- The label: which half of the journal is in use.
use Rattle.std.specs.Prelude.{◌≡◌, ℕ, ◌^◌, ◌≤◌, ◌⊎◌, List}
use Rattle.card.specs.Fields.{get, read, card_size_field, began_with_field, first_number_field, half_field, mark_field, label_mark}

-- A half of the journal in use: how many entries began it, the number of its first entry, and its first block.
pub record Half : Type 0 where
  pub count : ℕ
  pub first : ℕ
  pub start : ℕ

pub record InRange (h : Half) : Type 0 where
  pub count : h.count ≤ 61
  pub low : 1 ≤ h.first
  pub high : h.first ≤ 2 ^ 62
  pub start : (h.start ≡ 1) ⊎ (h.start ≡ 65)

-- A block is the label of a card of n blocks that names this half.
pub record Labels (n : ℕ) (block : List ℕ) (h : Half) : Type 0 where
  pub size : read card_size_field block ≡ n
  pub count : read began_with_field block ≡ h.count
  pub first : read first_number_field block ≡ h.first
  pub start : read half_field block ≡ h.start
  pub mark : get mark_field block ≡ label_mark
  pub range : InRange h
