-- A card that is backed is loaded as what it is backed by, and after a power cut one of the standings that may be found is recovered.
use Rattle.std.proofs.Common.{◌≡◌, ℕ, ◌+◌, true, List, length, Ok, Err, Result, sym, refl, ap, ◌∙◌, subst, inl, inr, arith}
use Rattle.std.proofs.lemmas.Bool.{both_ways, cases_lt}
use Rattle.disk.specs.Meaning.{Meaning, Restarted}
use Rattle.model.specs.Plain as plain
use Rattle.model.specs.Standing.{Standing}
use Rattle.catalogue.specs.declared.catalogues.Catalogue.{Catalogue}
use Rattle.catalogue.specs.Whole.{catalogue_of}
use Rattle.card.specs.Label.{Half}
use Rattle.journal.specs.Backed.{Backed}
use Rattle.journal.specs.Blocks.{Blocks}
use Rattle.recovery.specs.Loads.{Whole}
use Rattle.recovery.specs.Loaded.{Loaded}
use Rattle.recovery.specs.Recovers.{LoadsAs, BackedLoads, Among, Recovers, Recovered}
use Rattle.journal.proofs.Cuts.{backed_found}
use Rattle.journal.specs.Steps.{alone, Found, BeforeOrAfter}
use Rattle.journal.specs.View.{half_with, standing_of}
use Rattle.journal.specs.declared.place.Place.{Place}
use Rattle.recovery.specs.declared.loading.LoadError.{LoadError}
use Rattle.recovery.specs.declared.loading.LoadError.TheVariants.{Dark, WrongSize, BadLabel, BadEntry}
use Rattle.recovery.proofs.Agreements.{whole_once, whole_undamaged}
use Rattle.journal.proofs.Backing.{backed_smaller}

-- A disk that is found with these contents has a whole journal, with the standing's catalogue and place.
pub backed_whole : (n : ℕ) (f : Blocks) (h : Half) (s : Standing) (b : Backed n (alone f) h s) → Whole n f h b.entries s.catalogue
backed_whole n f h s b = record {
  label = b.label (f 0) refl;
  reads = record {
    room = omega (arith, b.long, b.used);
    counts = λ i less. (b.written i (f (h.start + i)) (omega (arith, b.long)) refl).marked;
    says = λ i less. (b.written i (f (h.start + i)) (omega (arith, b.long)) refl).says;
  };
  ends = elim (cases_lt (length b.entries) 64) [
    | inr full-half ↦ inl (omega (arith, b.long, b.used))
    | inl more ↦ inr (λ counts.
        let old = b.free (length b.entries) (f (h.start + length b.entries)) (omega (arith, b.long)) more refl in
        omega (arith, counts.number, old, b.long, b.first))
  ];
  enough = omega (arith, b.enough, b.long);
  makes = b.makes;
}

module _ (n : ℕ) (f : Blocks) (h : Half) (s : Standing) (b : Backed n (alone f) h s) where
  -- What was read is the standing, in its half.
  read_as : (p : Place) (count : ℕ) (entries : List plain.Entry) (cat : plain.Catalogue) → Whole n f (half_with count p) entries cat → length entries ≡ p.used
      → (half_with count p ≡ h) × (standing_of cat p ≡ s)
  read_as p count entries cat whole long =
      let once = whole_once n f h b.entries s.catalogue (backed_whole n f h s b) (half_with count p) entries cat whole in (
        once.0,
        ap (λ c. record { catalogue = c; place = record { first = p.first; used = p.used } }) once.2
            ∙ (ap (λ k. record { catalogue = s.catalogue; place = record { first = k; used = p.used } }) (ap (λ g. g.first) once.0 ∙ b.first)
            ∙ ap (λ k. record { catalogue = s.catalogue; place = record { first = s.place.first; used = k } }) (sym long ∙ (once.1 ∙ b.long))),
      )

module _ (m : Meaning) (c d : Catalogue) (h : Half) (s : Standing) (lit : m.lit ≡ true) (b : Backed m.blocks (alone m.present) h s) where
  pub loads_as : (r : Result Place LoadError) → Loaded m c r d → LoadsAs s r d
  loads_as (Ok p) loaded =
      let found = loaded.2.0 in (read_as m.blocks m.present h s b p found.0 found.1.0 (catalogue_of d) found.1.1.0 found.1.1.1).1
  loads_as (Err Dark) loaded = both_ways m.lit loaded.1 lit
  loads_as (Err WrongSize) loaded = elim loaded.0 [ inl low ↦ omega (arith, b.size.0) | inr high ↦ omega (arith, b.size.1) ]
  loads_as (Err BadLabel) loaded = loaded.2 h (b.label (m.present 0) refl)
  loads_as (Err (BadEntry block)) loaded =
      let at = loaded.2.0 in whole_undamaged m.blocks m.present h b.entries s.catalogue (backed_whole m.blocks m.present h s b) at.0 at.1.0 (catalogue_of d) at.1.1.1

-- A restart is one of the choices: it finds one of the standings, and the card is backed by it alone.
module _ (m m' : Meaning) (c d : Catalogue) (restarted : Restarted m m') (Allowed : Standing → Type 0) (found : Found m Allowed) where
  abbrev picked : (h : Half) × ((s : Standing) × (Allowed s × Backed m.blocks (alone m'.present) h s))
  picked = found m'.present restarted.comes

  alone_backed : Backed m'.blocks (alone m'.present) picked.0 picked.1.0
  alone_backed = subst (λ (n : ℕ). Backed n (alone m'.present) picked.0 picked.1.0) (sym restarted.size) picked.1.1.1

  pub recovers : (r : Result Place LoadError) → Loaded m' c r d → Recovers m' Allowed r d
  recovers (Ok p) loaded =
      let h = picked.0 in
      let s = picked.1.0 in
      let card = loaded.2.0 in
      let same = read_as m'.blocks m'.present h s alone_backed p card.0 card.1.0 (catalogue_of d) card.1.1.0 card.1.1.1 in
      let held : Backed m'.blocks m'.may h s = backed_smaller m'.blocks (alone m'.present) m'.may h s restarted.settled.alone alone_backed in
      let here : Backed m'.blocks m'.may (half_with card.0 p) s = subst (λ (g : Half). Backed m'.blocks m'.may g s) (sym same.0) held in (
        subst Allowed (sym same.1) picked.1.1.0,
        record {
          lit = restarted.light;
          blocks = loaded.2.1;
          backed = (card.0, subst (λ (t : Standing). Backed m'.blocks m'.may (half_with card.0 p) t) (sym same.1) here);
        },
      )
  recovers (Err e) loaded = loads_as m' c d picked.0 picked.1.0 restarted.light alone_backed (Err e) loaded

pub backed_loads : (m : Meaning) (c : Catalogue) (r : Result Place LoadError) (d : Catalogue) → Loaded m c r d → BackedLoads m r d
backed_loads m c r d loaded h s lit b = loads_as m c d h s lit b r loaded

pub recovered : (m m' : Meaning) (c d : Catalogue) (r : Result Place LoadError) → Restarted m m' → Loaded m' c r d → Recovered m c r m' d
recovered m m' c d r restarted loaded = record {
  restarted = restarted;
  loaded = loaded;
  whole = λ h s b. recovers m m' c d restarted (λ t. t ≡ s) (backed_found m h s (λ t. t ≡ s) refl b) r loaded;
  cut = λ s e found. recovers m m' c d restarted (BeforeOrAfter s e) found r loaded;
  any = λ ss found. recovers m m' c d restarted (Among ss) found r loaded;
}
