-- The label as plain data, and what of a block a decoder has to read.
use Rattle.std.specs.Prelude.{◌≡◌, ℕ, ◌<◌, ◌≤◌, List, [], length, take, Option, MatchOption, slice_index_or}
use Rattle.naming.specs.Name.{Lawful}
use Rattle.records.specs.View.{entry_of}
use Rattle.records.specs.declared.records.Entry.{Entry as RustEntry}
use Rattle.model.specs.Plain.{Entry, Path, register, commit, switch, forget, remove}
use Rattle.card.specs.Fields.{began_with_field, card_size_field, first_number_field, get, half_field, label_mark, mark_field, name_field, name_length_field, read, reference_count_field, reference_field}
use Rattle.card.specs.Entries.{Says}
use Rattle.card.specs.Label.{Half}
use Rattle.card.specs.declared.label.Label.{Label}

abbrev pub half_of : Label → Half
half_of l = record { count = l.count; first = l.first_number; start = l.first_block }

-- The fields of a label, whether or not they are in range.
pub record LabelFields (n : ℕ) (block : List ℕ) (h : Half) : Type 0 where
  pub size : read card_size_field block ≡ n
  pub count : read began_with_field block ≡ h.count
  pub first : read first_number_field block ≡ h.first
  pub start : read half_field block ≡ h.start
  pub mark : get mark_field block ≡ label_mark

-- The name, and the references, that a block says.
pub record SaysName (block name : List ℕ) : Type 0 where
  pub long : read name_length_field block ≡ length name
  pub text : take (length name) (get name_field block) ≡ name

pub record SaysReferences (block : List ℕ) (refs : List (List ℕ)) : Type 0 where
  pub count : read reference_count_field block ≡ length refs
  pub each : (k : ℕ) → k < length refs → get (reference_field k) block ≡ slice_index_or refs k []

-- A path with a lawful name and at most eight references. An entry that fits a catalogue registers no other.
pub record ReadablePath (p : Path) : Type 0 where
  pub lawful : Lawful p.name
  pub few : length p.refs ≤ 8

abbrev pub Readable : Entry → Type 0
Readable (register p) = ReadablePath p
Readable (commit p k h) = Unit {0}
Readable (switch p k) = Unit {0}
Readable (forget p k) = Unit {0}
Readable (remove h) = Unit {0}

-- Either the block says the decoded entry, or it says no readable one.
abbrev pub Decodes : List ℕ → Option RustEntry → Type 0
Decodes block r = MatchOption r ((e : Entry) → Says block e → Readable e → ⊥) (λ e. Says block (entry_of e))
