-- The change of halves, from the listing to the label.
use Rattle.std.proofs.Common.{◌≡◌, ℕ, ◌+◌, ◌≤◌, List, length, Ok, Err, sym, refl, ap, ◌∙◌, subst, inl, inr, arith}
use Rattle.disk.specs.declared.Fault.{Fault}
use Rattle.disk.specs.declared.Fault.TheVariants.{Dark, NoBlock}
use Rattle.disk.specs.Meaning.{Meaning}
use Rattle.model.specs.Listing.{listing}
use Rattle.model.specs.Standing as model
use Rattle.catalogue.specs.declared.catalogues.Catalogue.{Catalogue}
use Rattle.catalogue.specs.Whole.{catalogue_of}
use Rattle.card.specs.Label.{Half, Labels}
use Rattle.journal.specs.Blocks.{no_entry}
use Rattle.journal.specs.Backed.{other, next_half, Backed}
use Rattle.journal.specs.View.{start_of, half_with, standing_of}
use Rattle.journal.specs.Appends.{Listed, ListsInto, ListingPut, LabelPut, InEitherHalf, Ready, Changed}
use Rattle.journal.specs.declared.place.Place.{Place}
use Rattle.journal.proofs.Cuts.{backed_found, label_done, label_cut}
use Rattle.journal.proofs.Steps.{settled_kept, cut_kept, kept_more}

module _ (m : Meaning) (cat : Catalogue) (p q : Place) (first : q.first ≡ p.first + 64) (side : start_of q.side ≡ other (start_of p.side)) where
  abbrev half : Ready m cat p → Half
  half ready = half_with ready.backed.0 p

  abbrev standing : model.Standing
  standing = standing_of (catalogue_of cat) p

  into : (ready : Ready m cat p) → p.used ≡ 64 → ListsInto q (half ready) standing
  into ready full = record { full = full; first = first; start = side }

  -- The power fails, or a block is missing, while the listing is written.
  pub listing_fails : (m₁ : Meaning) (fault : Fault) → ListingPut m (catalogue_of cat) q (Err fault) m₁ → Changed m cat p (Err fault) m₁
  listing_fails m₁ Dark put = λ ready full numbered.
      let done = put (half ready) standing ready.lit refl (into ready full) ready.backed.1 in
      record { dark = done.0; kept = done.1; found = backed_found m₁ (half ready) standing (InEitherHalf standing) (inl refl) done.2 }
  listing_fails m₁ NoBlock put = λ ready full numbered. put (half ready) standing ready.lit refl (into ready full) ready.backed.1

  -- The label, after the listing.
  module _ (m₁ m₂ : Meaning) (k : ℕ) (few : k ≤ 61) (listed : ListingPut m (catalogue_of cat) q (Ok k) m₁) where
    same_half : (ready : Ready m cat p) → k ≡ length (listing (catalogue_of cat)) → half_with k q ≡ next_half (half ready) standing
    same_half ready long =
        ap (λ i. record { count = i; first = q.first; start = start_of q.side }) long
        ∙ (ap (λ i. record { count = length (listing (catalogue_of cat)); first = i; start = start_of q.side }) first
        ∙ ap (λ i. record { count = length (listing (catalogue_of cat)); first = p.first + 64; start = i }) side)

    labelled : (ready : Ready m cat p) (x : List ℕ) → m₁.blocks ≡ m.blocks → k ≡ length (listing (catalogue_of cat)) → (k ≤ 61 → Labels cat.blocks x (half_with k q)) → Labels m₁.blocks x (next_half (half ready) standing)
    labelled ready x size long labels =
        subst (λ (n : ℕ). Labels n x (next_half (half ready) standing)) (ready.blocks ∙ sym size) (subst (λ (h : Half). Labels cat.blocks x h) (same_half ready long) (labels few))

    pub label_fails : (fault : Fault) → LabelPut m₁ cat.blocks q k (Err fault) m₂ → Changed m cat p (Err fault) m₂
    label_fails Dark put = λ ready full numbered.
        let done = listed (half ready) standing ready.lit refl (into ready full) ready.backed.1 in
        let x = put.0 in
        let cut = put.1.1 done.0 in
        record {
          dark = cut.dark;
          kept = kept_more m m₁ m₂ done.0 done.1 (cut_kept m₁ m₂ 0 x (omega arith) cut);
          found = label_cut m₁ m₂ (half ready) standing no_entry x done.2 (InEitherHalf standing) (inl refl) (inr refl) full (omega arith)
              (subst (Listed m₁.may (half ready) standing) done.3 done.4) (labelled ready x done.1.size done.3 put.1.0) cut;
        }
    label_fails NoBlock put = λ ready full numbered.
        let done = listed (half ready) standing ready.lit refl (into ready full) ready.backed.1 in
        omega (arith, put.1.1 done.0, done.2.size.0)

    pub label_stands : (u : Unit {0}) (r : Place) → r.first ≡ q.first → r.side ≡ q.side → r.used ≡ k → LabelPut m₁ cat.blocks q k (Ok u) m₂ → Changed m cat p (Ok r) m₂
    label_stands u r firsts sides used put = λ ready full numbered.
        let done = listed (half ready) standing ready.lit refl (into ready full) ready.backed.1 in
        let x = put.0 in
        let settled = put.1.1 done.0 in
        let backed : Backed m₂.blocks m₂.may (next_half (half ready) standing) (model.moved standing) =
        label_done m₁ m₂ (half ready) standing no_entry x done.2 full (omega arith) (subst (Listed m₁.may (half ready) standing) done.3 done.4) (labelled ready x done.1.size done.3 put.1.0) settled in
        let moved : standing_of (catalogue_of cat) r ≡ model.moved standing =
        ap (λ i. record { catalogue = catalogue_of cat; place = record { first = i; used = r.used } }) (firsts ∙ first)
        ∙ ap (λ i. record { catalogue = catalogue_of cat; place = record { first = p.first + 64; used = i } }) (used ∙ done.3) in
        let kept = kept_more m m₁ m₂ done.0 done.1 (settled_kept m₁ m₂ 0 x (omega arith) settled) in
        let half_is : half_with k r ≡ next_half (half ready) standing =
        ap (λ i. record { count = k; first = i; start = start_of r.side }) firsts ∙ (ap (λ i. record { count = k; first = q.first; start = start_of i }) sides ∙ same_half ready done.3) in
        record {
          ready = record {
            lit = settled.light;
            blocks = ready.blocks ∙ sym kept.size;
            backed = (k, subst (λ (h : Half). Backed m₂.blocks m₂.may h (standing_of (catalogue_of cat) r)) (sym half_is) (subst (λ (s : model.Standing). Backed m₂.blocks m₂.may (next_half (half ready) standing) s) (sym moved) backed));
          };
          kept = kept;
          moved = moved;
        }
