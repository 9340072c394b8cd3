-- A block is the label for at most one half: the one that its fields name.
use Rattle.std.proofs.Common.{◌≡◌, ℕ, Bool, true, false, List, Some, Option, Decides, MatchOption, sym, refl, ap, ◌∙◌, subst}
use borrow.Author.Tests.{clash}
use Rattle.std.specs.Bool.{then_some}
use Rattle.card.specs.Fields.{began_with_field, card_size_field, first_number_field, get, half_field, label_mark, mark_field, read}
use Rattle.card.specs.Label.{Half, InRange, Labels}
use Rattle.card.specs.View.{half_of}
use Rattle.card.specs.declared.label.Label.{Label}

module _
    (n : ℕ)
    (block : List ℕ)
    (l : Label)
    (count : l.count ≡ read began_with_field block)
    (first : l.first_number ≡ read first_number_field block)
    (start : l.first_block ≡ read half_field block) where
  pub labels : (get mark_field block ≡ label_mark) × (read card_size_field block ≡ n) → InRange (half_of l) → Labels n block (half_of l)
  labels (mark, size) range = record { size = size; count = sym count; first = sym first; start = sym start; mark = mark; range = range }

  same_half : (h : Half) → Labels n block h → h ≡ half_of l
  same_half h labelled = λ i. record {
    count = (sym labelled.count ∙ sym count) i;
    first = (sym labelled.first ∙ sym first) i;
    start = (sym labelled.start ∙ sym start) i;
  }

  pub in_range : (h : Half) → Labels n block h → InRange (half_of l)
  in_range h labelled = subst InRange (same_half h labelled) labelled.range

  pub same_label : (m : Label) → Labels n block (half_of m) → l ≡ m
  same_label m labelled = λ i. record {
    count = (count ∙ labelled.count) i;
    first_number = (first ∙ labelled.first) i;
    first_block = (start ∙ labelled.start) i;
  }

  -- The label, where its fields are in range.
  module _ (marked : (get mark_field block ≡ label_mark) × (read card_size_field block ≡ n)) where
    pub label_cases : (b : Bool) → Decides b (InRange (half_of l)) → (r : Option Label) → r ≡ then_some b l
        → MatchOption r ((h : Half) → Labels n block h → ⊥) (λ m. Labels n block (half_of m))
    label_cases true ranged r is = rw is (labels marked (ranged.0 refl))
    label_cases false ranged r is = rw is (λ h labelled. clash (ranged.1 (in_range h labelled)))

    pub label_back : (b : Bool) → Decides b (InRange (half_of l)) → (r : Option Label) → r ≡ then_some b l
        → (m : Label) → Labels n block (half_of m) → r ≡ Some m
    label_back true ranged r is m labelled = is ∙ ap Some (same_label m labelled)
    label_back false ranged r is m labelled = absurd (clash (ranged.1 (in_range (half_of m) labelled)))
