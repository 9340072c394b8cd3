-- What a cut leaves, at each write of an append: before, after, or the same catalogue in the other half.
use Rattle.std.proofs.Common.{◌≡◌, ℕ, ◌+◌, ◌-◌, ◌^◌, ◌<◌, ◌≤◌, ◌≢◌, ◌⊎◌, List, length, get_or, sym, ap, ◌∙◌, subst, inl, inr, arith}
use Rattle.std.proofs.lemmas.Bool.{cases_eq}
use Rattle.disk.specs.Meaning.{Meaning, Choice, GainsOnly}
use Rattle.model.specs.Plain.{Entry}
use Rattle.model.specs.Fits.{Fits}
use Rattle.model.specs.Listing.{listing}
use Rattle.model.specs.Standing.{Standing, next_number, moved, entered}
use Rattle.card.specs.Label.{Half, Labels}
use Rattle.journal.specs.Blocks.{Blocks, no_entry}
use Rattle.journal.specs.Backed.{Sets, other, IsEntry, next_half, Backed}
use Rattle.journal.specs.Steps.{alone, SettledWith, CutWith, Found}
use Rattle.journal.specs.Appends.{Listed}
use Rattle.journal.proofs.Backing.{Replaced, Smaller, backed_smaller, backed_entered, backed_listing, listed_more, backed_moved}

-- A restart picks the content that was on its way to block b, or all of its contents are ones from before.
pick : (m m' : Meaning) (b : ℕ) (x : List ℕ) (f : Blocks) → GainsOnly b x m m' → m'.blocks ≡ m.blocks → b < m.blocks → Choice m' f
    → Smaller m.blocks m.may (alone f) ⊎ Replaced m.blocks m.may b x (alone f)
pick m m' b x f gains size within choice =
    let from : (k : ℕ) → k < m.blocks → k ≢ b → m.may k (f k) =
    λ k less ne. elim (gains k (f k) less (choice k (omega arith))) [ inl old ↦ old | inr new ↦ absurd (ne new.0) ] in
    elim (gains b (f b) within (choice b (omega arith))) [
      | inl old ↦ inl (λ k y less is. subst (m.may k) (sym is) (elim (cases_eq k b) [ inl same ↦ subst (λ (i : ℕ). m.may i (f i)) (sym same) old | inr ne ↦ from k less ne ]))
      | inr new ↦ inr (λ k y less is. (λ same. is ∙ (ap f same ∙ new.1), λ ne. subst (m.may k) (sym is) (from k less ne)))
    ]

-- Every restart of a backed disk finds its standing.
pub backed_found : (m : Meaning) (h : Half) (s : Standing) (Allowed : Standing → Type 0) → Allowed s → Backed m.blocks m.may h s → Found m Allowed
backed_found m h s Allowed allowed b f choice =
    (h, (s, (allowed, backed_smaller m.blocks m.may (alone f) h s (λ k y less is. subst (m.may k) (sym is) (choice k less)) b)))

-- At a block that was on its way: the standing before, or the one that the block makes.
found_either : (m m' : Meaning) (b : ℕ) (x : List ℕ) (h h' : Half) (s s' : Standing) (Allowed : Standing → Type 0) → CutWith m b x m' → b < m.blocks → Allowed s → Allowed s'
    → Backed m.blocks m.may h s → ((may' : Sets) → Replaced m.blocks m.may b x may' → Backed m.blocks may' h' s') → Found m' Allowed
found_either m m' b x h h' s s' Allowed cut within allowed allowed' backed makes f choice =
    subst (λ (n : ℕ). (g : Half) × ((t : Standing) × (Allowed t × Backed n (alone f) g t))) (sym cut.size) (
    elim (pick m m' b x f cut.gains cut.size within choice) [
      | inl old ↦ (h, (s, (allowed, backed_smaller m.blocks m.may (alone f) h s old backed)))
      | inr new ↦ (h', (s', (allowed', makes (alone f) new)))
    ])

module _ (m m' : Meaning) (h : Half) (s : Standing) (e : Entry) (x : List ℕ) (backed : Backed m.blocks m.may h s) where
  abbrev n : ℕ
  n = m.blocks

  -- The entry, in a half with room.
  pub entry_done : s.place.used < 64 → Fits n s.catalogue e → IsEntry x h s.place.used e → SettledWith m (h.start + s.place.used) x m' → Backed m'.blocks m'.may h (entered s e)
  entry_done more fits is done =
      subst (λ (k : ℕ). Backed k m'.may h (entered s e)) (sym done.size) (backed_entered n m.may m'.may h s e x backed more fits is done.sets)

  pub entry_cut : (Allowed : Standing → Type 0) → Allowed s → Allowed (entered s e) → s.place.used < 64 → Fits n s.catalogue e → IsEntry x h s.place.used e
      → h.start + s.place.used < n → CutWith m (h.start + s.place.used) x m' → Found m' Allowed
  entry_cut Allowed before later more fits is within cut =
      found_either m m' (h.start + s.place.used) x h h s (entered s e) Allowed cut within before later backed (λ may' replaced. backed_entered n m.may may' h s e x backed more fits is replaced)

  -- An entry of the checkpoint, while the half is full.
  pub listing_done : (i : ℕ) → s.place.used ≡ 64 → i < length (listing s.catalogue) → i < 64 → IsEntry x (next_half h s) i (get_or (listing s.catalogue) i no_entry)
      → SettledWith m (other h.start + i) x m' → Listed m.may h s i → Backed m'.blocks m'.may h s × Listed m'.may h s (i + 1)
  listing_done i all within below is done listed =
      let gains : (k : ℕ) (y : List ℕ) → k < n → m'.may k y → m.may k y ⊎ ((k ≡ other h.start + i) × (y ≡ x)) =
      λ k y less may-k. elim (cases_eq k (other h.start + i)) [ inl same ↦ inr (same, (done.sets k y less may-k).0 same) | inr ne ↦ inl ((done.sets k y less may-k).1 ne) ] in (
        subst (λ (k : ℕ). Backed k m'.may h s) (sym done.size) (backed_listing n m.may m'.may h s i x backed all within below is gains),
        listed_more n m.may m'.may h s i x backed.size.0 backed.range below listed is done.sets,
      )

  pub listing_cut : (i : ℕ) → s.place.used ≡ 64 → i < length (listing s.catalogue) → i < 64 → IsEntry x (next_half h s) i (get_or (listing s.catalogue) i no_entry)
      → CutWith m (other h.start + i) x m' → Backed m'.blocks m'.may h s
  listing_cut i all within below is cut =
      subst (λ (k : ℕ). Backed k m'.may h s) (sym cut.size) (backed_listing n m.may m'.may h s i x backed all within below is cut.gains)

  -- The label that names the other half.
  pub label_done : s.place.used ≡ 64 → next_number s.place ≤ 2 ^ 62 - 128 → Listed m.may h s (length (listing s.catalogue)) → Labels n x (next_half h s) → SettledWith m 0 x m'
      → Backed m'.blocks m'.may (next_half h s) (moved s)
  label_done all numbered listed label done =
      subst (λ (k : ℕ). Backed k m'.may (next_half h s) (moved s)) (sym done.size) (backed_moved n m.may m'.may h s x backed all numbered listed label done.sets)

  pub label_cut : (Allowed : Standing → Type 0) → Allowed s → Allowed (moved s) → s.place.used ≡ 64 → next_number s.place ≤ 2 ^ 62 - 128
      → Listed m.may h s (length (listing s.catalogue)) → Labels n x (next_half h s) → CutWith m 0 x m' → Found m' Allowed
  label_cut Allowed before later all numbered listed label cut =
      found_either m m' 0 x h (next_half h s) s (moved s) Allowed cut (omega (arith, backed.size.0)) before later backed
      (λ may' replaced. backed_moved n m.may may' h s x backed all numbered listed label replaced)
