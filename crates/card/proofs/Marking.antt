-- Entries of the other kinds as they are written, and the trailer that follows what an entry says.
use Rattle.std.proofs.Common.{◌≡◌, ℕ, ◌+◌, ◌*◌, ◌≤◌, List, [], ◌∷◌, length, take, ap, ◌∙◌, arith}
use Rattle.std.proofs.lemmas.List.{length-map}
use Rattle.model.specs.Plain as plain
use Rattle.model.specs.Plain.{register, commit, switch, forget, remove}
use Rattle.records.specs.View.{bytes_of, entry_of, listed}
use Rattle.records.proofs.Places.{listed_length}
use Rattle.records.specs.declared.records.Entry.{Entry}
use Rattle.records.specs.declared.records.Entry.TheVariants.{Register, Commit, Switch, Forget, Remove}
use Rattle.card.specs.Fields.{Field, Zero, committed_field, field, first_block_field, generation_field, get, hash_field, kind_field, name_field, name_length_field, profile_field, read, reference_count_field, reference_field, size_field}
use Rattle.card.specs.Entries.{Clean, Says}
use Rattle.card.specs.Written.{Wrote}
use Rattle.card.proofs.Writes.{as_wide, field_below, read_below, zero_below, zero_less, zero_past}

module _ (b c h : List ℕ) (p k : ℕ) (whole : length h ≡ 20) (wrote : Wrote (field 6 (length h)) h b c) where
  pub commit_says : read kind_field b ≡ 2 → read profile_field b ≡ p → read generation_field b ≡ k → Says c (commit p k h)
  commit_says kind profile number = (
    read_below kind_field b c 6 (omega arith) wrote.kept.below ∙ kind,
    read_below profile_field b c 6 (omega arith) wrote.kept.below ∙ profile,
    read_below generation_field b c 6 (omega arith) wrote.kept.below ∙ number,
    as_wide 6 c h 20 whole wrote.here,
  )

  pub commit_clean : Zero 6 256 b → Clean c (commit p k h)
  commit_clean zeros =
      zero_past b c 26 240 6 (6 + length h) (omega arith) wrote.kept (zero_less b 6 256 26 240 (omega arith) (omega arith) zeros)

module _ (blank b c h : List ℕ) (whole : length h ≡ 20) (kind : Wrote (field 0 1) (5 ∷ []) blank b) (hash : Wrote (field 1 (length h)) h b c) where
  pub remove_clean : Zero 0 256 blank → Clean c (remove h)
  remove_clean zeros =
      zero_past b c 21 240 1 (1 + length h) (omega arith) hash.kept
      (zero_past blank b 21 240 0 1 (omega arith) kind.kept (zero_less blank 0 256 21 240 (omega arith) (omega arith) zeros))

-- An entry has at most eight references, so that what it says stands below the trailer.
abbrev pub Few : plain.Entry → Type 0
Few (register p) = length p.refs ≤ 8
Few (commit p k h) = Unit {0}
Few (switch p k) = Unit {0}
Few (forget p k) = Unit {0}
Few (remove h) = Unit {0}

pub few_entry : (e : Entry) → Few (entry_of e)
few_entry (Register p) = omega (arith, length-map (listed p.refs) bytes_of, listed_length p.refs, p.refs.few)
few_entry (Commit p k h) = tt
few_entry (Switch p k) = tt
few_entry (Forget p k) = tt
few_entry (Remove h) = tt

module _ (b c : List ℕ) (same : take 240 c ≡ take 240 b) where
  number : (f : Field) (n : ℕ) → f.at + f.width ≤ 240 → read f b ≡ n → read f c ≡ n
  number f n low is = read_below f b c 240 low same ∙ is

  bytes : (f : Field) → f.at + f.width ≤ 240 → get f c ≡ get f b
  bytes f low = field_below f b c 240 low same

  pub says_kept : (e : plain.Entry) → Few e → Says b e → Says c e
  says_kept (register p) few (kind, says) = (
    number kind_field 1 (omega arith) kind,
    record {
      hash = bytes hash_field (omega arith) ∙ says.hash;
      name_length = number name_length_field (length p.name) (omega arith) says.name_length;
      name = ap (take (length p.name)) (bytes name_field (omega arith)) ∙ says.name;
      size = number size_field p.size (omega arith) says.size;
      first_block = number first_block_field p.first (omega arith) says.first_block;
      reference_count = number reference_count_field (length p.refs) (omega arith) says.reference_count;
      references = λ k less. bytes (reference_field k) (omega arith) ∙ says.references k less;
    },
  )
  says_kept (commit p k h) few (kind, profile, generation, hash) = (
    number kind_field 2 (omega arith) kind,
    number profile_field p (omega arith) profile,
    number generation_field k (omega arith) generation,
    bytes committed_field (omega arith) ∙ hash,
  )
  says_kept (switch p k) few (kind, profile, generation) =
      (number kind_field 3 (omega arith) kind, number profile_field p (omega arith) profile, number generation_field k (omega arith) generation)
  says_kept (forget p k) few (kind, profile, generation) =
      (number kind_field 4 (omega arith) kind, number profile_field p (omega arith) profile, number generation_field k (omega arith) generation)
  says_kept (remove h) few (kind, hash) = (number kind_field 5 (omega arith) kind, bytes hash_field (omega arith) ∙ hash)

  pub clean_kept : (e : plain.Entry) → Clean b e → Clean c e
  clean_kept (register p) (name, rest) = (
    zero_below b c (22 + length p.name) 46 240 (omega arith) same name,
    zero_below b c (55 + 20 * length p.refs) 240 240 (omega arith) same rest,
  )
  clean_kept (commit p k h) zeros = zero_below b c 26 240 240 (omega arith) same zeros
  clean_kept (switch p k) zeros = zero_below b c 6 240 240 (omega arith) same zeros
  clean_kept (forget p k) zeros = zero_below b c 6 240 240 (omega arith) same zeros
  clean_kept (remove h) zeros = zero_below b c 21 240 240 (omega arith) same zeros
