-- A card made new, stage by stage.
use Rattle.std.proofs.Common.{◌≡◌, ℕ, ◌+◌, ◌-◌, ◌≤◌, List, [], Ok, Err, sym, refl, ap, ◌∙◌, subst, inl, inr, arith}
use Rattle.disk.specs.declared.Fault.{Fault}
use Rattle.disk.specs.declared.Fault.TheVariants.{Dark, NoBlock}
use Rattle.disk.specs.Meaning.{Meaning, Restarted}
use Rattle.model.specs.Plain.{nothing}
use Rattle.model.specs.Fits.{start}
use Rattle.model.specs.Standing as model
use Rattle.card.specs.Label.{Labels}
use Rattle.journal.specs.Backed.{Sets, Old, Backed}
use Rattle.journal.specs.Steps.{alone, Put, Clear, Cleared, zeros, DataKept, CardSized}
use Rattle.journal.specs.View.{start_of, half_with, place_of, standing_of}
use Rattle.journal.specs.Appends.{LabelPut}
use Rattle.journal.specs.Formats.{NewCard, FormatCut, LayingOut, LaidOut, DataFound, Formatted}
use Rattle.journal.specs.declared.formatting.FormatError.TheVariants.{Failed}
use Rattle.journal.specs.declared.place.Place.{Place}
use Rattle.journal.specs.declared.place.Side.TheVariants.{Lower}
use Rattle.journal.proofs.Steps.{settled_kept, cut_kept, kept_more}

-- The halves cleared, or not.
cleared_kept : (m m' : Meaning) → Cleared m m' → DataKept m m'
cleared_kept m m' done = record {
  size = done.size;
  gains = λ k y past less may. (done.sets k y less may).1 (λ within. omega (arith, within.1));
  contents = λ light k past less. done.others k less (λ within. omega (arith, within.1));
}

old_zeros : (y : List ℕ) → y ≡ zeros → Old 1 y
old_zeros y is = subst (Old 1) (sym is) (omega arith)

-- A label for the lower half over cleared halves backs the empty catalogue.
backed_new : (n : ℕ) (may : Sets) (p : Place) (x : List ℕ) → (130 ≤ n) × (n ≤ 65536) → p.first ≡ 1 → p.side ≡ Lower → p.used ≡ 0 → Labels n x (half_with 0 p) → ((y : List ℕ) → may 0 y → y ≡ x)
    → ((k : ℕ) (y : List ℕ) → 1 ≤ k → k ≤ 128 → may k y → y ≡ zeros) → Backed n may (half_with 0 p) (standing_of nothing p)
backed_new n may p x size first side used label labelled cleared =
    let at : start_of p.side ≡ 1 = ap start_of side in
    let next : (place_of p).first + (place_of p).used ≡ 1 = omega (arith, first, used) in
    record {
      size = size;
      range = label.range;
      first = refl;
      used = omega (arith, used);
      enough = omega arith;
      entries = [];
      long = sym used;
      makes = start;
      label = λ y m. subst (λ (z : List ℕ). Labels n z (half_with 0 p)) (sym (labelled y m)) label;
      written = λ i y less m. absurd (omega (arith, used));
      free = λ i y past less m. subst (λ (k : ℕ). Old k y) (sym next) (old_zeros y (cleared (start_of p.side + i) y (omega (arith, at)) (omega (arith, at)) m));
      rest = λ i y less m. inl (subst (λ (k : ℕ). Old k y) (sym next) (old_zeros y (cleared (66 - start_of p.side + i) y (omega (arith, at)) (omega (arith, at)) m)));
    }

new_place : (p : Place) → p.first ≡ 1 → p.used ≡ 0 → place_of p ≡ record { first = 1; used = 0 }
new_place p first used = ap (λ k. record { first = k; used = p.used }) first ∙ ap (λ k. record { first = 1; used = k }) used

module _ (m : Meaning) (n : ℕ) (m₁ : Meaning) where
  module _ (u : Unit {0}) (unlabelled : Put m 0 zeros (Ok u) m₁) (m₂ : Meaning) where
    module _ (v : Unit {0}) (halves : Clear m₁ (Ok v) m₂) (m₃ : Meaning) (p : Place) (first : p.first ≡ 1) (side : p.side ≡ Lower) (used : p.used ≡ 0) where
      -- What the halves may be found with, once they are cleared.
      zeroed : (fits : LayingOut m n) (k : ℕ) (y : List ℕ) → 1 ≤ k → k ≤ 128 → m₂.may k y → y ≡ zeros
      zeroed fits k y low high may = let one = unlabelled fits.0 in ((halves one.light).sets k y (omega (arith, fits.1, fits.2, one.size)) may).0 (low, high)

      kept : (fits : LayingOut m n) → DataKept m m₂
      kept fits =
          let one = unlabelled fits.0 in
          kept_more m m₁ m₂ one.light (settled_kept m m₁ 0 zeros (omega arith) one) (cleared_kept m₁ m₂ (halves one.light))

      pub label_fails : (fault : Fault) → LabelPut m₂ n p 0 (Err fault) m₃ → LaidOut m n (Err fault) m₃
      label_fails Dark put = λ fits.
          let one = unlabelled fits.0 in
          let two = halves one.light in
          let cut = put.1.1 two.light in
          let size : m₂.blocks ≡ n = two.size ∙ (one.size ∙ sym fits.1) in
          let unlabelled-still : (y : List ℕ) → m₂.may 0 y → y ≡ zeros =
          λ y may. (one.sets 0 y (omega (arith, fits.1, fits.2)) ((two.sets 0 y (omega (arith, fits.1, fits.2, one.size)) may).1 (λ within. omega (arith, within.0)))).0 refl in (
            cut.dark,
            kept_more m m₂ m₃ two.light (kept fits) (cut_kept m₂ m₃ 0 put.0 (omega arith) cut),
            λ f choice. elim (cut.gains 0 (f 0) (omega (arith, size, fits.2)) (choice 0 (omega (arith, size, cut.size, fits.2)))) [
              | inl old ↦ inr (inl (unlabelled-still (f 0) old))
              | inr new ↦ inr (inr (
                half_with 0 p,
                subst (λ (t : model.Place). Backed m.blocks (alone f) (half_with 0 p) (record { catalogue = nothing; place = t })) (new_place p first used)
                    (backed_new m.blocks (alone f) p put.0 (omega (arith, fits.1, fits.2), omega (arith, fits.1, fits.3)) first side used
                    (subst (λ (k : ℕ). Labels k put.0 (half_with 0 p)) fits.1 (put.1.0 (omega arith)))
                    (λ y is. is ∙ new.1)
                    (λ k y low high is. elim (cut.gains k (f k) (omega (arith, size, fits.2)) (choice k (omega (arith, size, cut.size, fits.2)))) [
                      | inl old ↦ is ∙ zeroed fits k (f k) low high old
                      | inr other ↦ absurd (omega (arith, other.0))
                    ])),
              ))
            ],
          )
      label_fails NoBlock put = λ fits.
          let one = unlabelled fits.0 in
          let two = halves one.light in
          omega (arith, put.1.1 two.light, two.size, one.size, fits.1, fits.2)

      pub laid_out : (w : Unit {0}) → LabelPut m₂ n p 0 (Ok w) m₃ → LaidOut m n (Ok p) m₃
      laid_out w put = λ fits.
          let one = unlabelled fits.0 in
          let two = halves one.light in
          let three = put.1.1 two.light in
          let size : m₃.blocks ≡ m.blocks = three.size ∙ (two.size ∙ one.size) in
          let new = backed_new m₃.blocks m₃.may p put.0 (omega (arith, size, fits.1, fits.2), omega (arith, size, fits.1, fits.3)) first side used
          (subst (λ (k : ℕ). Labels k put.0 (half_with 0 p)) (fits.1 ∙ sym size) (put.1.0 (omega arith)))
          (λ y may. (three.sets 0 y (omega (arith, fits.1, fits.2, one.size, two.size)) may).0 refl)
          (λ k y low high may. zeroed fits k y low high ((three.sets k y (omega (arith, fits.1, fits.2, one.size, two.size)) may).1 (λ e. omega arith))) in
          (record { lit = three.light; backed = (0, new); place = new_place p first used }, kept_more m m₂ m₃ two.light (kept fits) (settled_kept m₂ m₃ 0 put.0 (omega arith) three))

-- The first place of the lower half.
abbrev pub lowest : Place
lowest = record { side = Lower; first = 1; used = 0; low = omega arith; high = omega arith; room = omega arith }

-- A cut since a restart, seen from before the restart.
pub cut_since : (m m₁ m₂ : Meaning) → Restarted m m₁ → FormatCut m₁ m₂ → FormatCut m m₂
cut_since m m₁ m₂ restarted cut f choice = elim (cut f choice) [
  | inl old ↦ inl (λ k less. restarted.gains k (f k) less (old k (omega (arith, restarted.size))))
  | inr new ↦ inr (elim new [ inl none ↦ inl none | inr empty ↦ inr (subst (λ (n : ℕ). NewCard n f) restarted.size empty) ])
]

-- What was kept since a restart was found by it.
pub found_kept : (m m₁ m₂ : Meaning) → Restarted m m₁ → DataKept m₁ m₂ → DataFound m m₂
found_kept m m₁ m₂ restarted kept = record {
  size = kept.size ∙ restarted.size;
  gains = λ k y past less may. restarted.gains k y less (kept.gains k y past (omega (arith, restarted.size)) may);
  comes = λ light k past less. subst (m.may k) (sym (kept.contents light k past (omega (arith, restarted.size)))) (restarted.comes k less);
}

-- The format, from its restart on.
module _ (m m₁ m₂ : Meaning) (n : ℕ) (restarted : Restarted m m₁) (same : n ≡ m₁.blocks) (low : 130 ≤ n) (high : n ≤ 65536) where
  sized : CardSized m
  sized = let size : n ≡ m.blocks = same ∙ restarted.size in (omega arith, omega arith)

  pub format_fails : (fault : Fault) → LaidOut m₁ n (Err fault) m₂ → Formatted m (Err (Failed fault)) m₂
  format_fails Dark laid =
      let cut = laid (restarted.light, same, low, high) in
      (sized.0, sized.1, cut.0, found_kept m m₁ m₂ restarted cut.1, cut_since m m₁ m₂ restarted cut.2)
  format_fails NoBlock laid = laid (restarted.light, same, low, high)
