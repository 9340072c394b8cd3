-- An entry appended, with the change of halves where it is due.
use Rattle.std.proofs.Common.{◌≡◌, ℕ, ◌+◌, ◌-◌, ◌^◌, ◌<◌, ◌≤◌, length, Ok, Err, Result, sym, refl, ap, ◌∙◌, subst, inl, inr, arith}
use Rattle.disk.specs.declared.Fault.{Fault}
use Rattle.disk.specs.declared.Fault.TheVariants.{Dark, NoBlock}
use Rattle.disk.specs.Meaning.{Meaning}
use Rattle.model.specs.Plain.{Catalogue, Entry}
use Rattle.model.specs.Fits.{Fits, after}
use Rattle.model.specs.Listing.{listing}
use Rattle.model.specs.Standing as model
use Rattle.model.proofs.Sounds.{makes_sound}
use Rattle.model.proofs.Rows.{listing_short}
use Rattle.catalogue.specs.declared.catalogues.Catalogue.{Catalogue as RustCatalogue}
use Rattle.catalogue.specs.Whole.{catalogue_of}
use Rattle.card.specs.Label.{Half}
use Rattle.journal.specs.Backed.{Backed}
use Rattle.journal.specs.Steps.{Found, BeforeOrAfter, as_before, as_moved, as_after}
use Rattle.journal.specs.View.{start_of, half_with, standing_of, BackedBy}
use Rattle.journal.specs.Appends.{EntryPut, InEitherHalf, Changed, Enters, Appends}
use Rattle.journal.specs.declared.place.Place.{Place}
use Rattle.journal.proofs.Backing.{start_low, entered_is, entered_moved}
use Rattle.journal.proofs.Cuts.{entry_done, entry_cut}
use Rattle.journal.proofs.Steps.{settled_kept, cut_kept, kept_more, entry_in}

module _ (m m' : Meaning) (p : Place) (e : Entry) (more : p.used < 64) where
  entry_block : (cat : Catalogue) (backed : BackedBy m.blocks m.may p cat) → (start_of p.side + p.used ≤ 128) × (start_of p.side + p.used < m.blocks)
  entry_block cat backed = let low = start_low (half_with backed.0 p) backed.1.range in (omega (arith, low.1), omega (arith, low.1, backed.1.size.0))

  -- The power fails, or a block is missing, while the entry is written.
  pub enter_fails : (fault : Fault) → EntryPut m p p.used e (Err fault) m' → Enters m p e (Err fault) m'
  enter_fails Dark put = λ cat lit backed fits.
      let h : Half = half_with backed.0 p in
      let s = standing_of cat p in
      let x = put.0 in
      let cut = put.1.1 lit in
      let block = entry_block cat backed in
      record {
        dark = cut.dark;
        kept = cut_kept m m' (start_of p.side + p.used) x block.0 cut;
        found = entry_cut m m' h s e x backed.1 (BeforeOrAfter s e) as_before as_after more fits (entry_in x (half_with 0 p) h p.used e refl refl put.1.0) block.1 cut;
      }
  enter_fails NoBlock put = λ cat lit backed fits. omega (arith, put.1.1 lit, (entry_block cat backed).1)

  pub enter_stands : (u : Unit {0}) (q : Place) → q.first ≡ p.first → q.side ≡ p.side → q.used ≡ p.used + 1 → EntryPut m p p.used e (Ok u) m' → Enters m p e (Ok q) m'
  enter_stands u q firsts sides used put = λ cat lit backed fits.
      let h : Half = half_with backed.0 p in
      let s = standing_of cat p in
      let x = put.0 in
      let settled = put.1.1 lit in
      let block = entry_block cat backed in
      let done : Backed m'.blocks m'.may h (model.entered s e) = entry_done m m' h s e x backed.1 more fits (entry_in x (half_with 0 p) h p.used e refl refl put.1.0) settled in
      let is : standing_of (after cat e) q ≡ model.entered s e =
      ap (λ i. record { catalogue = after cat e; place = record { first = i; used = q.used } }) firsts
      ∙ (ap (λ i. record { catalogue = after cat e; place = record { first = p.first; used = i } }) used ∙ sym (entered_is s e more)) in
      let half_is : half_with backed.0 q ≡ h = ap (λ i. record { count = backed.0; first = i; start = start_of q.side }) firsts ∙ ap (λ i. record { count = backed.0; first = p.first; start = start_of i }) sides in
      record {
        lit = settled.light;
        kept = settled_kept m m' (start_of p.side + p.used) x block.0 settled;
        backed = (backed.0, subst (λ (g : Half). Backed m'.blocks m'.may g (standing_of (after cat e) q)) (sym half_is) (subst (λ (t : model.Standing). Backed m'.blocks m'.may h t) (sym is) done));
        entered = is;
      }

-- What a restart may find, by a wider list.
found_wider : (m : Meaning) (Few Many : model.Standing → Type 0) → ((t : model.Standing) → Few t → Many t) → Found m Few → Found m Many
found_wider m Few Many wider found f choice = let at = found f choice in (at.0, (at.1.0, (wider at.1.0 at.1.1.0, at.1.1.1)))

either_before : (s : model.Standing) (e : Entry) → s.place.used ≡ 64 → (t : model.Standing) → InEitherHalf s t → BeforeOrAfter s e t
either_before s e full t (inl same) = subst (BeforeOrAfter s e) (sym same) as_before
either_before s e full t (inr moved) = subst (BeforeOrAfter s e) (sym moved) (as_moved full)

moved_before : (s : model.Standing) (e : Entry) → s.place.used ≡ 64 → length (listing s.catalogue) < 64 → (t : model.Standing) → BeforeOrAfter (model.moved s) e t → BeforeOrAfter s e t
moved_before s e full short t as_before = as_moved full
moved_before s e full short t (as_moved again) = absurd (omega arith)
moved_before s e full short t as_after = subst (BeforeOrAfter s e) (entered_moved s e full short) as_after

module _ (m : Meaning) (cat : RustCatalogue) (p : Place) (e : Entry) (full : p.used ≡ 64) (numbered : p.first + 64 ≤ 2 ^ 62 - 128) where
  pub change_fails : (m₁ : Meaning) (fault : Fault) → Changed m cat p (Err fault) m₁ → Appends m cat p e (Err fault) m₁
  change_fails m₁ Dark change = λ ready fits.
      let cut = change ready full numbered in
      record { dark = cut.dark; kept = cut.kept; found = found_wider m₁ _ _ (either_before (standing_of (catalogue_of cat) p) e full) cut.found }
  change_fails m₁ NoBlock change = λ ready fits. change ready full numbered

  -- After the change of halves, the entry.
  pub then_enters : (m₁ m₂ : Meaning) (q : Place) (r : Result Place Fault) → Changed m cat p (Ok q) m₁ → Enters m₁ q e r m₂ → Appends m cat p e r m₂
  then_enters m₁ m₂ q (Ok t) change enters = λ ready fits.
      let s = standing_of (catalogue_of cat) p in
      let done = change ready full numbered in
      let short : length (listing (catalogue_of cat)) ≤ 61 = listing_short m.blocks (catalogue_of cat) (makes_sound ready.backed.1.makes) in
      let entered = enters (catalogue_of cat) done.ready.lit done.ready.backed (subst (λ (n : ℕ). Fits n (catalogue_of cat) e) (sym done.kept.size) fits) in
      record {
        lit = entered.lit;
        kept = kept_more m m₁ m₂ done.ready.lit done.kept entered.kept;
        backed = entered.backed;
        entered = entered.entered ∙ (ap (λ t. model.entered t e) done.moved ∙ sym (entered_moved s e full (omega arith)));
      }
  then_enters m₁ m₂ q (Err Dark) change enters = λ ready fits.
      let s = standing_of (catalogue_of cat) p in
      let done = change ready full numbered in
      let short : length (listing (catalogue_of cat)) ≤ 61 = listing_short m.blocks (catalogue_of cat) (makes_sound ready.backed.1.makes) in
      let cut = enters (catalogue_of cat) done.ready.lit done.ready.backed (subst (λ (n : ℕ). Fits n (catalogue_of cat) e) (sym done.kept.size) fits) in
      record {
        dark = cut.dark;
        kept = kept_more m m₁ m₂ done.ready.lit done.kept cut.kept;
        found = found_wider m₂ _ _ (λ t b. moved_before s e full (omega arith) t (subst (λ (u : model.Standing). BeforeOrAfter u e t) done.moved b)) cut.found;
      }
  then_enters m₁ m₂ q (Err NoBlock) change enters = λ ready fits.
      let done = change ready full numbered in
      enters (catalogue_of cat) done.ready.lit done.ready.backed (subst (λ (n : ℕ). Fits n (catalogue_of cat) e) (sym done.kept.size) fits)
