-- A block says at most one entry, and which entries a decoder has to read.
use Rattle.std.proofs.Common.{◌≡◌, ℕ, cond, eqb, List, [], map, length, take, Some, None, Option, sym, refl, ap, ◌∙◌, ap₂, MatchOption}
use Rattle.std.proofs.lemmas.List.FromFn.{fill_by_all}
use Rattle.std.specs.List.{range_with_len}
use Rattle.model.specs.Fits.{Fits}
use Rattle.model.specs.Plain as plain
use Rattle.model.specs.Plain.{register, commit, switch, forget, remove}
use Rattle.records.specs.View.{entry_of}
use Rattle.records.specs.declared.records.Entry.{Entry}
use Rattle.records.specs.declared.records.Entry.TheVariants.{Register, Commit, Switch, Forget, Remove}
use Rattle.card.specs.Fields.{committed_field, first_block_field, generation_field, get, hash_field, kind_field, name_field, name_length_field, profile_field, read, reference_count_field, reference_field, size_field}
use Rattle.card.specs.Entries.{Says, SaysPath}
use Rattle.card.specs.View.{Decodes, Readable}
use Rattle.card.proofs.Marking.{few_entry}

module _ (block : List ℕ) where
  -- The entry of a kind that the fields of the block make; any one for another kind.
  abbrev said_path : plain.Path
  said_path = record {
    hash = get hash_field block;
    name = take (read name_length_field block) (get name_field block);
    size = read size_field block;
    first = read first_block_field block;
    refs = map (λ k. get (reference_field k) block) (range_with_len 0 (read reference_count_field block));
  }

  abbrev said : ℕ → plain.Entry
  said k =
      cond (eqb k 1) (register said_path)
      (cond (eqb k 2) (commit (read profile_field block) (read generation_field block) (get committed_field block))
      (cond (eqb k 3) (switch (read profile_field block) (read generation_field block))
      (cond (eqb k 4) (forget (read profile_field block) (read generation_field block)) (remove (get hash_field block)))))

  says_path_is : (p : plain.Path) → SaysPath block p → said_path ≡ p
  says_path_is p says = λ i. record {
    hash = says.hash i;
    name = (ap (λ n. take n (get name_field block)) says.name_length ∙ says.name) i;
    size = says.size i;
    first = says.first_block i;
    refs =
        (ap (λ n. map (λ k. get (reference_field k) block) (range_with_len 0 n)) says.reference_count
        ∙ sym (fill_by_all (λ k. get (reference_field k) block) p.refs (length p.refs) [] refl (λ k less. sym (says.references k less)))) i;
  }

  says_is : (e : plain.Entry) → Says block e → said (read kind_field block) ≡ e
  says_is (register p) (kind, says) = ap said kind ∙ ap register (says_path_is p says)
  says_is (commit p k h) (kind, profile, number, hash) = ap said kind ∙ (λ i. commit (profile i) (number i) (hash i))
  says_is (switch p k) (kind, profile, number) = ap said kind ∙ ap₂ switch profile number
  says_is (forget p k) (kind, profile, number) = ap said kind ∙ ap₂ forget profile number
  says_is (remove h) (kind, hash) = ap said kind ∙ ap remove hash

  pub says_once : (e f : plain.Entry) → Says block e → Says block f → e ≡ f
  says_once e f one other = sym (says_is e one) ∙ says_is f other

-- An entry that fits a catalogue, and every value of the type, is readable.
pub fits_readable : (e : plain.Entry) (n : ℕ) (cat : plain.Catalogue) → Fits n cat e → Readable e
fits_readable (register p) n cat fits = record { lawful = fits.lawful; few = fits.few }
fits_readable (commit p k h) n cat fits = tt
fits_readable (switch p k) n cat fits = tt
fits_readable (forget p k) n cat fits = tt
fits_readable (remove h) n cat fits = tt

pub entry_readable : (e : Entry) → Readable (entry_of e)
entry_readable (Register p) = record { lawful = p.name.lawful; few = few_entry (Register p) }
entry_readable (Commit p k h) = tt
entry_readable (Switch p k) = tt
entry_readable (Forget p k) = tt
entry_readable (Remove h) = tt

-- What follows from what is decoded.
pub decoded_back : (block : List ℕ) (r : Option Entry) → Decodes block r → (e : Entry) → Says block (entry_of e)
    → MatchOption r ⊥ (λ f. entry_of f ≡ entry_of e)
decoded_back block None unread e says = unread (entry_of e) says (entry_readable e)
decoded_back block (Some f) read e says = says_once block (entry_of f) (entry_of e) read says
