-- The half that a label names, read to its end or to the first entry that is wrong.
use Rattle.std.proofs.Common.{◌≡◌, ℕ, ◌+◌, ◌<◌, ◌≤◌, true, ◌⊎◌, List, length, Some, None, Option, MatchOption, Ok, Err, Result, rules, sym, refl, ap, ◌∙◌, subst, inl, inr, arith}
use Rattle.std.proofs.lemmas.Bool.{both_ways}
use Rattle.std.specs.Option.{IsSome, ok_or}
use Rattle.disk.specs.Meaning.{Meaning}
use Rattle.model.specs.Plain.{Entry}
use Rattle.model.specs.Fits.{Fits}
use Rattle.catalogue.specs.declared.catalogues.Catalogue.{Catalogue}
use Rattle.catalogue.specs.Whole.{catalogue_of}
use Rattle.card.specs.Label.{Half, Labels}
use Rattle.card.specs.View.{half_of}
use Rattle.card.specs.declared.label.Label.{Label}
use Rattle.recovery.specs.Loads.{Counts, Reads, Ends, Whole}
use Rattle.journal.specs.View.{start_of, half_with}
use Rattle.journal.specs.Steps.{CardSized}
use Rattle.recovery.specs.Loaded.{FreshFor, EntriesRead, LabelRead, Loaded, HalfFound, HalfInto, HalfRead}
use Rattle.journal.specs.declared.place.Place.{Place}
use Rattle.journal.specs.declared.place.Side.{Side}
use Rattle.journal.specs.declared.place.Side.TheVariants.{Lower, Upper}
use Rattle.recovery.specs.declared.loading.LoadError.{LoadError}
use Rattle.recovery.specs.declared.loading.LoadError.TheVariants.{Dark, WrongSize, BadLabel, BadEntry}

module _ (m : Meaning) (p : Place) (l : Label) (c d : Catalogue) (first : p.first ≡ l.first_number) (start : start_of p.side ≡ l.first_block) where
  named : half_of l ≡ half_with l.count p
  named = ap (λ k. record { count = l.count; first = k; start = l.first_block }) (sym first) ∙ ap (λ k. record { count = l.count; first = p.first; start = k }) (sym start)

  labelled : Labels m.blocks (m.present 0) (half_of l) → Labels m.blocks (m.present 0) (half_with l.count p)
  labelled label = subst (Labels m.blocks (m.present 0)) named label

  reads_in : (entries : List Entry) → Reads m.present (half_with 0 p) entries → Reads m.present (half_with l.count p) entries
  reads_in entries reads = record { room = reads.room; counts = reads.counts; says = reads.says }

  -- To its end.
  pub half_whole : (k : ℕ) → l.count ≤ k → EntriesRead m p c (Ok k) d → CardSized m → m.lit ≡ true → Labels m.blocks (m.present 0) (half_of l) → FreshFor m c
      → ((count : ℕ) × ((entries : List Entry) × (Whole m.blocks m.present (half_with count p) entries (catalogue_of d) × (length entries ≡ k)))) × (d.blocks ≡ m.blocks)
  half_whole k enough read sized lit label fresh =
      let all = read.2 fresh in (
        (
          l.count,
          (
            all.0.entries,
            (
              record {
                label = labelled label;
                reads = reads_in all.0.entries all.0.reads;
                ends = subst (Ends m.present (half_with l.count p)) (sym all.0.long) all.1;
                enough = omega (arith, all.0.long);
                makes = all.0.makes;
              },
              all.0.long,
            ),
          ),
        ),
        all.0.blocks,
      )

  -- To fewer entries than began it.
  pub half_short : (k b : ℕ) → b ≡ start_of p.side + k → k < l.count → l.count ≤ 61 → EntriesRead m p c (Ok k) d → HalfRead m l c (Err (BadEntry b)) d
  half_short k b is fewer few read sized lit label fresh =
      let all = read.2 fresh in
      let stops : Counts m.present (half_with l.count p) k → ⊥ = elim all.1 [ inl full ↦ absurd (omega arith) | inr none ↦ none ] in (
        (
          half_with l.count p,
          (
            k,
            (
              is,
              record {
                label = labelled label;
                within = omega arith;
                entries = all.0.entries;
                long = all.0.long;
                reads = reads_in all.0.entries all.0.reads;
                makes = all.0.makes;
                wrong = inr (stops, fewer);
              },
            ),
          ),
        ),
        all.0.blocks,
      )

  -- To an entry that does not fit, or not at all.
  pub half_fails : (e : LoadError) → EntriesRead m p c (Err e) d → HalfRead m l c (Err e) d
  half_fails Dark read sized lit label = both_ways m.lit read lit
  half_fails WrongSize read sized lit label = omega (arith, sized.0, read)
  half_fails BadLabel read sized lit label = read
  half_fails (BadEntry b) read sized lit label = λ fresh.
      let at = read.1 fresh in (
        (
          half_with l.count p,
          (
            at.0,
            (
              at.1.1,
              record {
                label = labelled label;
                within = at.1.0;
                entries = at.1.2.entries;
                long = at.1.2.long;
                reads = reads_in at.1.2.entries at.1.2.reads;
                makes = at.1.2.makes;
                wrong = inl (at.1.3, λ e says fits. at.1.4 e says (subst (λ (n : ℕ). Fits n (catalogue_of d) e) (sym at.1.2.blocks) fits));
              },
            ),
          ),
        ),
        at.1.2.blocks,
      )

-- What a whole load says of a card whose label was read.
pub half_loads : (m : Meaning) (c : Catalogue) (r : Result Place LoadError) (d : Catalogue) → CardSized m → m.lit ≡ true → HalfFound m r d → Loaded m c r d
half_loads m c (Ok p) d sized lit found = (sized, lit, found)
half_loads m c (Err Dark) d sized lit found = absurd found
half_loads m c (Err WrongSize) d sized lit found = absurd found
half_loads m c (Err BadLabel) d sized lit found = absurd found
half_loads m c (Err (BadEntry b)) d sized lit found = (sized, lit, found)

-- The label that block 0 says.
pub label_read : (m : Meaning) (n : ℕ) (block : List ℕ) (o : Option Label) (r : Result Label LoadError) → m.lit ≡ true → block ≡ m.present 0
    → MatchOption o ((h : Half) → Labels n block h → ⊥) (λ l. Labels n block (half_of l)) → r ≡ ok_or o BadLabel → LabelRead m n r
label_read m n block None r lit same none is = rw is (lit, λ h labels. none h (subst (λ b. Labels n b h) (sym same) labels))
label_read m n block (Some l) r lit same labels is = rw is (lit, subst (λ b. Labels n b (half_of l)) same labels)

-- A label in range names a half.
pub side_there : (b : ℕ) (o : Option Side) → (b ≡ 1) ⊎ (b ≡ 65) → MatchOption o ((side : Side) → start_of side ≡ b → ⊥) (λ side. start_of side ≡ b) → IsSome o
side_there b None which none = absurd (elim which [ inl low ↦ none Lower (sym low) | inr high ↦ none Upper (sym high) ])
side_there b (Some side) which start = search rules

-- No label.
pub label_fails : (m : Meaning) (c : Catalogue) (n : ℕ) (e : LoadError) → CardSized m → n ≡ m.blocks → LabelRead m n (Err e) → Loaded m c (Err e) c
label_fails m c n Dark sized same read = (sized, read, refl)
label_fails m c n WrongSize sized same read = absurd (omega (arith, sized.0, read))
label_fails m c n BadLabel sized same read = (sized, read.0, λ h labels. read.1 h (subst (λ (k : ℕ). Labels k (m.present 0) h) (sym same) labels), refl)
label_fails m c n (BadEntry b) sized same read = absurd read

-- Read into a catalogue with nothing in it.
pub half_found : (m : Meaning) (c : Catalogue) (r : Result Place LoadError) (d : Catalogue) → FreshFor m c → HalfInto m c r d → HalfFound m r d
half_found m c (Ok p) d fresh into = into fresh
half_found m c (Err Dark) d fresh into = into
half_found m c (Err WrongSize) d fresh into = into
half_found m c (Err BadLabel) d fresh into = into
half_found m c (Err (BadEntry b)) d fresh into = into fresh
