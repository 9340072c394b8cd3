-- Tests over the elements of a list, one by one.
use Rattle.std.proofs.Common.{◌≡◌, ℕ, suc, ◌<◌, ◌≤◌, Bool, true, false, not, ◌&&◌, ◌||◌, List, [], ◌∷◌, map, length, get_or, is_some, Some, None, Decides, Option, sym, refl, ap, ◌∙◌, arith}
use Rattle.std.proofs.lemmas.List.{get_or-map, length-map}
use native.Mathlib.Decide.{dec_lt}
use Rattle.std.specs.List.{list_all, list_any, position, position_or_len}
use Rattle.std.proofs.lemmas.List.Sums.{fails_before_first, passes_at_first}
use Rattle.std.proofs.lemmas.Bool.{or_from, false≢true, le-ltb, lt-ltb}
use Rattle.model.specs.Fits.{any}
use Rattle.model.proofs.Chains.{any_from}
use Rattle.records.specs.Find.{Finds}

-- Some element of a list that has a place.
pub some_of : {X : Type 0} (xs : List X) (i : ℕ) → i < length xs → X
some_of [] i less = absurd (omega arith)
some_of (x ∷ xs) i less = x

module _ {X : Type 0} (test : X → Bool) where
  -- None of the first i elements passes.
  abbrev pub Unmet : List X → ℕ → Type 0
  Unmet xs i = (k : ℕ) (d : X) → k < i → test (get_or xs k d) ≡ false

  pub unmet_all : (xs : List X) (i : ℕ) → length xs ≤ i → Unmet xs i → any test xs ≡ false
  unmet_all [] i all h = refl
  unmet_all (x ∷ xs) i all h =
      or_from (test x) (any test xs) (h 0 x (omega arith)) (unmet_all xs (length xs) (omega arith) (λ k d less. h (suc k) d (omega arith)))

  -- What std's `position` and `any` answer.
  pub finds_position : (xs : List X) (r : Option ℕ) → r ≡ position test xs → Finds test xs r
  finds_position xs r told =
      let n = position_or_len test xs in
      elim (dec_lt n (length xs)) [
        | yes p ↦ rw (told, lt-ltb n (length xs) p) (p, λ d. passes_at_first test xs d p, λ k d. fails_before_first test xs k d)
        | no q ↦ rw (told, le-ltb n (length xs) (omega arith)) (unmet_all xs n (omega arith) (λ k d. fails_before_first test xs k d))
      ]

  pub any_is : (xs : List X) → list_any test xs ≡ any test xs
  any_is [] = refl
  any_is (x ∷ xs) = ap (λ (b : Bool). test x || b) (any_is xs)

  pub all_is : (xs : List X) → list_all test xs ≡ not (any (λ x. not (test x)) xs)
  all_is [] = refl
  all_is (x ∷ xs) = elim (test x) as (λ b. (b && list_all test xs) ≡ not (not b || any (λ y. not (test y)) xs)) [ true ↦ all_is xs | false ↦ refl ]

  pub found_any : (xs : List X) (r : Option ℕ) → Finds test xs r → any test xs ≡ is_some r
  found_any xs None h = h
  found_any [] (Some i) h = absurd (omega (arith, h.0))
  found_any (x ∷ xs) (Some i) h = any_from test (x ∷ xs) x i h.0 (h.1 x)

pub any_map : {X Y : Type 0} (f : X → Y) (test : Y → Bool) (xs : List X) → any test (map f xs) ≡ any (λ x. test (f x)) xs
any_map f test [] = refl
any_map f test (x ∷ xs) = ap (λ (b : Bool). test (f x) || b) (any_map f test xs)

pub finds_map : {X Y : Type 0} (f : X → Y) (test : Y → Bool) (xs : List X) (r : Option ℕ) → Finds (λ x. test (f x)) xs r → Finds test (map f xs) r
finds_map f test xs None h = any_map f test xs ∙ h
finds_map f test [] (Some i) h = absurd (omega (arith, h.0))
finds_map {X} {Y} f test (x ∷ xs) (Some i) h =
    let within : i < length (map f (x ∷ xs)) = rw (length-map (x ∷ xs) f) h.0 in (
      within,
      λ d. ap test (get_or-map f (x ∷ xs) i x d h.0) ∙ h.1 x,
      λ k d less. ap test (get_or-map f (x ∷ xs) k x d (omega (arith, h.0))) ∙ h.2 k x less,
    )

-- The same, of a list of which the code has the elements before they are read.
pub mapped_finds : {X Y : Type 0} (f : X → Y) (test : Y → Bool) (xs : List X) (r : Option ℕ) → r ≡ position (λ x. test (f x)) xs → Finds test (map f xs) r
mapped_finds f test xs r told = finds_map f test xs r (finds_position (λ x. test (f x)) xs r told)

pub mapped_any : {X Y : Type 0} (f : X → Y) (test : Y → Bool) (xs : List X) → list_any (λ x. test (f x)) xs ≡ any test (map f xs)
mapped_any f test xs = any_is (λ x. test (f x)) xs ∙ sym (any_map f test xs)

pub decides_yes : {P : Type 0} → P → Decides true P
decides_yes p = (λ _. p, λ _. refl)

pub decides_no : {P : Type 0} → (P → ⊥) → Decides false P
decides_no no-p = (λ e. absurd (false≢true e), λ p. absurd (no-p p))
