-- What the greatest generation tells of the numbers, and how many generations there are.
use Rattle.std.proofs.Common.{◌≡◌, ℕ, ◌-◌, ◌<◌, ◌≤◌, List, map, length, get_or, Some, None, vec_items, Option, sym, ap, ◌∙◌, arith}
use mathlib.Core.Logic.{∥∥₁_elim}
use native.Mathlib.Decide.{dec_lt}
use denote.Struct.Props.{props}
use Rattle.std.proofs.lemmas.List.{get_or-map, get_or_past, length-map, length-take-le}
use Rattle.naming.proofs.Orders.{order_greater}
use Rattle.order.specs.Search.{Greatest}
use Rattle.model.specs.Plain as plain
use Rattle.model.specs.Fits.{profile}
use Rattle.order.specs.declared.rows.RowSet.{RowSet}
use Rattle.order.specs.Rows.{HasJust, Holds}
use Rattle.records.specs.declared.records.Generation.{Generation}
use Rattle.catalogue.specs.declared.profile.Profile.{Profile}
use Rattle.catalogue.specs.declared.catalogues.Catalogue.{Catalogue}
use Rattle.records.specs.Orders.{by_number}
use Rattle.catalogue.specs.View.{profile_of}
use Rattle.records.specs.View.{generation_of}
use Rattle.catalogue.specs.Whole.{catalogue_of}
use Rattle.queries.specs.Newest.{GreatestNumber, Newest, NewestBelow, number_at}

module _ (gens : List Generation) where
  at_number : (k : ℕ) (x : Generation) → k < length gens → number_at (map generation_of gens) k ≡ (get_or gens k x).number
  at_number k x less = ap (λ g. g.number) (get_or-map generation_of gens k x plain.no_generation less)

  pub read_number : (k : ℕ) (x : Generation) → k < length gens → x ≡ get_or gens k x → number_at (map generation_of gens) k ≡ x.number
  read_number k x less is = at_number k x less ∙ ap (λ g. g.number) (sym is)

  module _ (looked : ℕ → Type 0) where
    pub number_some : (i n : ℕ) (x : Generation) → n ≡ (get_or gens i x).number → Greatest by_number gens looked (Some i)
        → GreatestNumber (map generation_of gens) looked (Some n)
    number_some i n x is top =
        let here = top.0.0 in
        let same = at_number i x here.0 in (
          i,
          (
            rw (length-map gens generation_of) here.0,
            here.1,
            same ∙ sym is,
            λ k within look.
                let inside : k < length gens = rw (length-map gens generation_of) at within in
                let other = at_number k x inside in
                elim (dec_lt (get_or gens i x).number (get_or gens k x).number) [
                  | yes more ↦ absurd (top.0.1 k x (inside, look) (order_greater (get_or gens k x).number (get_or gens i x).number more))
                  | no most ↦ omega (arith, other, is)
                ],
          ),
        )

-- Places of which P and Q say the same.
looked_alike : (gens : List plain.Generation) (P Q : ℕ → Type 0) → ((k : ℕ) → k < length gens → P k → Q k)
    → ((k : ℕ) → k < length gens → Q k → P k) → (r : Option ℕ) → GreatestNumber gens P r → GreatestNumber gens Q r
looked_alike gens P Q to from None none = λ k less q. none k less (from k less q)
looked_alike gens P Q to from (Some n) (i, (less, p, is, most)) = (i, (less, to i less p, is, λ k within q. most k within (from k within q)))

module _ (gens : List Generation) (few : length gens ≤ 6) (s : RowSet) (r : Option ℕ) (found : GreatestNumber (map generation_of gens) (Holds s) r) where
  pub newest_of_all : HasJust s (λ k. (k < 6) × (k < 64)) → Newest (map generation_of gens) r
  newest_of_all all =
      let long = length-map gens generation_of in
      looked_alike (map generation_of gens) (Holds s) (λ k. Unit {0}) (λ k less h. tt)
      (λ k less u. (all k).1 (omega (arith, less, long, few), omega (arith, less, long, few))) r found

  pub newest_of_some : (n : ℕ) → HasJust s (λ k. (k < length gens) × ((number_at (map generation_of gens) k < n) × (k < 64)))
      → NewestBelow (map generation_of gens) n r
  newest_of_some n some =
      let long = length-map gens generation_of in
      looked_alike (map generation_of gens) (Holds s) (λ k. number_at (map generation_of gens) k < n) (λ k less h. ((some k).0 h).1.0)
      (λ k less below. (some k).1 (omega (arith, less, long), (below, omega (arith, less, long, few)))) r found

module _ (c : Catalogue) where
  -- A profile has at most six generations.
  few_generations : (p : ℕ) → p < 3 → length (profile (catalogue_of c) p).generations ≤ 6
  few_generations p less =
      let gens = (profile (catalogue_of c) p).generations in
      elim (dec_lt 0 (length gens)) [
        | yes some ↦
            ∥∥₁_elim c.sound (hlevel props)
            (λ s.
            let last = ((s.profiles p less).rising (length gens - 1) (omega arith)).room in
            let long = length-take-le (length gens - 1) gens (omega arith) in
            let fit : length gens ≤ 6 = omega arith in fit)
        | no none ↦ omega arith
      ]

  pub generations_of : (p : ℕ) (f : Profile) → p < 3 → profile_of f ≡ profile (catalogue_of c) p → (gens : List Generation) → gens ≡ vec_items f.generations
      → (map generation_of gens ≡ (profile (catalogue_of c) p).generations) × (length gens ≤ 6)
  generations_of p f less is gens lent =
      let are = ap (map generation_of) lent ∙ ap (λ q. q.generations) is in
      let few = few_generations p less in
      let long = length-map gens generation_of in
      let count = ap length are in (are, omega (arith, few, long, count))

  -- A profile that is not there has none.
  pub none_past : (p : ℕ) → 3 ≤ p → (P : ℕ → Type 0) → GreatestNumber (profile (catalogue_of c) p).generations P None
  none_past p past P k less look =
      let three = c.three in
      let long = length-map c.profiles profile_of in
      let none = ap (λ f. length f.generations) (get_or_past (catalogue_of c).profiles p plain.unused (omega (arith, past, three, long))) in
      absurd (omega (arith, less, none))
