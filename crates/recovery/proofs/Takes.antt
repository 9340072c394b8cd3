-- The entry of a block, applied or not.
use Rattle.std.proofs.Common.{◌≡◌, ℕ, ◌+◌, ◌<◌, true, List, [], ◌∷◌, ◌++◌, length, is_ok, Ok, Err, Result, sym, refl, ap, ◌∙◌, subst, inl, inr, arith}
use Rattle.std.proofs.lemmas.List.{length_push, get_or_append_left, get_or_push}
use Rattle.std.proofs.lemmas.Bool.{cases_lt}
use Rattle.disk.specs.Meaning.{Meaning}
use Rattle.model.specs.Plain.{Entry}
use Rattle.model.specs.Fits.{Fits, Makes, start, then}
use Rattle.catalogue.specs.declared.catalogues.Catalogue.{Catalogue}
use Rattle.catalogue.specs.declared.applying.Unfit.{Unfit}
use Rattle.catalogue.specs.Applied.{Applied}
use Rattle.catalogue.specs.Whole.{catalogue_of}
use Rattle.card.specs.Entries.{Says}
use Rattle.journal.specs.Blocks.{no_entry}
use Rattle.recovery.specs.Loads.{Counts}
use Rattle.recovery.specs.Loaded.{Took, FreshFor, SoFar}
use Rattle.journal.specs.View.{start_of, half_with}
use Rattle.journal.specs.declared.place.Place.{Place}

pub took : (c d : Catalogue) (block : List ℕ) (e : Entry) (r : Result (Unit {0}) Unfit) → Says block e → ((f g : Entry) → Says block f → Says block g → f ≡ g) → Applied c e r d → Took c block (is_ok r) d
took c d block e (Ok u) says once applied = (e, (says, applied.0, applied.1))
took c d block e (Err u) says once applied =
    (λ f says-f fits. applied.0 (subst (Fits c.blocks (catalogue_of c)) (once f e says-f says) fits), applied.1)

-- One more entry is read and applied.
pub so_far_none : (m : Meaning) (p : Place) (c : Catalogue) → FreshFor m c → SoFar m p 0 c
so_far_none m p c fresh = record {
  entries = [];
  long = refl;
  reads = record { room = omega arith; counts = λ i less. absurd (omega arith); says = λ i less. absurd (omega arith) };
  makes = subst (Makes m.blocks []) (sym fresh.0) start;
  blocks = fresh.1;
}

pub so_far_more : (m : Meaning) (p : Place) (i : ℕ) (c d : Catalogue) → i < 64 → SoFar m p i c → Counts m.present (half_with 0 p) i → Took c (m.present (start_of p.side + i)) true d → SoFar m p (i + 1) d
so_far_more m p i c d below so counts took =
    let e = took.0 in
    let long : length (so.entries ++ (e ∷ [])) ≡ i + 1 = length_push so.entries e ∙ ap (λ k. k + 1) so.long in
    record {
      entries = so.entries ++ (e ∷ []);
      long = long;
      reads = record {
        room = omega arith;
        counts = λ j less. elim (cases_lt j i) [ inl l ↦ so.reads.counts j (omega (arith, so.long)) | inr g ↦ let here : i ≡ j = omega arith in subst (Counts m.present (half_with 0 p)) here counts ];
        says = λ j less. elim (cases_lt j i) [
          | inl l ↦ subst (Says (m.present (start_of p.side + j))) (sym (get_or_append_left so.entries (e ∷ []) no_entry j (omega (arith, so.long)))) (so.reads.says j (omega (arith, so.long)))
          | inr g ↦ let here : i ≡ j = omega arith in
              subst (Says (m.present (start_of p.side + j))) (sym (get_or_push so.entries e no_entry j (so.long ∙ here))) (subst (λ (k : ℕ). Says (m.present (start_of p.side + k)) e) here took.1.0)
        ];
      };
      makes = subst (Makes m.blocks (so.entries ++ (e ∷ []))) (sym took.1.2.0) (then e so.makes (subst (λ (n : ℕ). Fits n (catalogue_of c) e) so.blocks took.1.1));
      blocks = took.1.2.1 ∙ so.blocks;
    }
