-- Two readings of the same blocks agree: a card that is whole is read as one catalogue, and is not damaged.
use Rattle.std.proofs.Common.{◌≡◌, ℕ, ◌+◌, ◌<◌, ◌≤◌, ◌⊎◌, List, length, get_or, take, sym, ap, ◌∙◌, subst, inl, inr, arith}
use Rattle.std.proofs.lemmas.List.{ext_get_or, get_or-take, length-take-le, take_all}
use Rattle.std.proofs.lemmas.Bool.{cases_lt}
use Rattle.model.specs.Plain.{Catalogue, Entry}
use Rattle.model.specs.Fits.{Fits}
use Rattle.model.proofs.Makings.{makes_fits, makes_once}
use Rattle.card.specs.Entries.{Says}
use Rattle.card.specs.Label.{Half, Labels}
use Rattle.card.proofs.Saying.{says_once}
use Rattle.journal.specs.Blocks.{Blocks, no_entry}
use Rattle.recovery.specs.Loads.{Counts, Reads, Ends, Whole, Damaged}

-- A block is the label for one half.
labels_once : (n : ℕ) (block : List ℕ) (h g : Half) → Labels n block h → Labels n block g → g ≡ h
labels_once n block h g one other =
    ap (λ k. record { count = k; first = g.first; start = g.start }) (sym other.count ∙ one.count)
    ∙ (ap (λ k. record { count = h.count; first = k; start = g.start }) (sym other.first ∙ one.first)
    ∙ ap (λ k. record { count = h.count; first = h.first; start = k }) (sym other.start ∙ one.start))

module _ (f : Blocks) (h : Half) (es fs : List Entry) (one : Reads f h es) (other : Reads f h fs) where
  -- Where the journal ends after the first entries, no more are read.
  no_longer : Ends f h (length es) → length fs ≤ length es
  no_longer ends = elim (cases_lt (length es) (length fs)) [
    | inl more ↦ elim ends [ inl full ↦ absurd (omega (arith, other.room)) | inr stops ↦ absurd (stops (other.counts (length es) more)) ]
    | inr short ↦ short
  ]

  -- Those that are read are a beginning of them.
  begins : length fs ≤ length es → fs ≡ take (length fs) es
  begins short =
      ext_get_or no_entry fs (take (length fs) es) (sym (length-take-le (length fs) es short))
      (λ i less. says_once (f (h.start + i)) (get_or fs i no_entry) (get_or es i no_entry) (other.says i less) (one.says i (omega arith)) ∙ sym (get_or-take (length fs) es i no_entry less))

module _ (n : ℕ) (f : Blocks) (h : Half) (es : List Entry) (cat : Catalogue) (whole : Whole n f h es cat) where
  -- A card is whole in one way.
  pub whole_once : (g : Half) (fs : List Entry) (dog : Catalogue) → Whole n f g fs dog → (g ≡ h) × (length fs ≡ length es) × (dog ≡ cat)
  whole_once g fs dog also =
      let same : g ≡ h = labels_once n (f 0) h g whole.label also.label in
      let reads : Reads f h fs = subst (λ (k : Half). Reads f k fs) same also.reads in
      let ends : Ends f h (length fs) = subst (λ (k : Half). Ends f k (length fs)) same also.ends in
      let long : length fs ≡ length es = omega (arith, no_longer f h es fs whole.reads reads whole.ends, no_longer f h fs es reads whole.reads ends) in
      let all : fs ≡ es = begins f h es fs whole.reads reads (omega arith) ∙ take_all (length fs) es (omega arith) in
      (same, long, makes_once fs es dog cat all also.makes whole.makes)

  -- A card that is whole is not damaged.
  pub whole_undamaged : (g : Half) (i : ℕ) (dog : Catalogue) → Damaged n f g i dog → ⊥
  whole_undamaged g i dog damaged =
      let same : g ≡ h = labels_once n (f 0) h g whole.label damaged.label in
      let fs = damaged.entries in
      let reads : Reads f h fs = subst (λ (k : Half). Reads f k fs) same damaged.reads in
      let short : length fs ≤ length es = no_longer f h es fs whole.reads reads whole.ends in
      let wrong : (Counts f h i × ((e : Entry) → Says (f (h.start + i)) e → Fits n dog e → ⊥)) ⊎ ((Counts f h i → ⊥) × (i < h.count)) =
      subst (λ (k : Half). (Counts f k i × ((e : Entry) → Says (f (k.start + i)) e → Fits n dog e → ⊥)) ⊎ ((Counts f k i → ⊥) × (i < k.count))) same damaged.wrong in
      elim wrong [
        | inr missing ↦ missing.0 (whole.reads.counts i (omega (arith, whole.enough, missing.1)))
        | inl unfit ↦ elim (cases_lt i (length es)) [
          | inl less ↦
              let before = makes_fits no_entry i whole.makes less in
              let first : fs ≡ take i es = begins f h es fs whole.reads reads short ∙ ap (λ k. take k es) damaged.long in
              let cat-is : before.0 ≡ dog = makes_once (take i es) fs before.0 dog (sym first) before.1.0 damaged.makes in
              unfit.1 (get_or es i no_entry) (whole.reads.says i less) (subst (λ (c : Catalogue). Fits n c (get_or es i no_entry)) cat-is before.1.1)
          | inr more ↦
              let here : i ≡ length es = omega (arith, damaged.long) in
              elim whole.ends [ inl full ↦ omega (arith, damaged.within) | inr stops ↦ stops (subst (Counts f h) here unfit.0) ]
        ]
      ]
