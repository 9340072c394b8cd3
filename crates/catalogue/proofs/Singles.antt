-- In a sound catalogue a hash is that of one path, and a number that of one generation of a profile.
use Rattle.std.proofs.Common.{ℕ, ◌<◌, eqb, List, length, get_or, sym, ap, ◌∙◌, inl, inr, arith}
use mathlib.Core.Logic.{∥∥₁_elim}
use native.Mathlib.Nat.{ℕ_set}
use Rattle.std.specs.Str.{bytes_eq}
use Rattle.std.proofs.lemmas.List.{get_or-take, length-take-le}
use Rattle.std.proofs.lemmas.Bool.{cases_order, eqb-true}
use Rattle.model.specs.Lists.{Chain}
use Rattle.model.specs.Plain.{Path, Generation, Catalogue, no_path, no_generation}
use Rattle.model.specs.Fits.{Committable, Sound, profile}
use Rattle.model.proofs.Rows.{one_row}
use Rattle.model.proofs.Sounds.{same_is}
use Rattle.catalogue.specs.Change.{Single}

module _ (paths : List Path) (gens : List Generation) (rising : Chain (Committable paths) no_generation gens) where
  pub rises : (i j : ℕ) → i < j → j < length gens → (get_or gens i no_generation).number < (get_or gens j no_generation).number
  rises i j less inside =
      let long = length-take-le j gens (omega arith) in
      let below = (rising j inside).above i (omega arith) in
      let same = ap (λ g. g.number) (get_or-take j gens i no_generation less) in
      omega arith

  one_number : (k : ℕ) → Single (λ g. eqb g.number k) no_generation gens
  one_number k i j li lj p q =
      let ni = eqb-true (get_or gens i no_generation).number k p in
      let nj = eqb-true (get_or gens j no_generation).number k q in
      elim (cases_order i j) [
        | inl same ↦ same
        | inr other ↦ elim other [ inl l ↦ absurd (omega (arith, rises i j l lj)) | inr g ↦ absurd (omega (arith, rises j i g li)) ]
      ]

module _ (n : ℕ) (cat : Catalogue) (sound : ∥ Sound n cat ∥₁) where
  pub single_number : (p k : ℕ) → p < 3 → Single (λ g. eqb g.number k) no_generation (profile cat p).generations
  single_number p k less i j li lj hi hj =
      ∥∥₁_elim sound (ℕ_set i j) (λ s. one_number cat.paths (profile cat p).generations (s.profiles p less).rising k i j li lj hi hj)

  pub single_hash : (h : List ℕ) → Single (λ p. bytes_eq p.hash h) no_path cat.paths
  single_hash h i j li lj hi hj =
      ∥∥₁_elim sound (ℕ_set i j)
      (λ s. one_row n cat.paths s.rows i j li lj (same_is (get_or cat.paths i no_path).hash h hi ∙ sym (same_is (get_or cat.paths j no_path).hash h hj)))
