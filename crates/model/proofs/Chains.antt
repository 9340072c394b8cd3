-- Lists of which each element fits after those before it; tests on any element; what a filter leaves of both.
use Rattle.std.proofs.Common.{◌≡◌, ℕ, zero, suc, ◌+◌, ◌<◌, ◌≤◌, Bool, true, false, cond, not, ◌||◌, List, [], ◌∷◌, ◌++◌, length, get_or, take, filter, refl, ap, ◌∙◌, inl, inr, add-one, arith}
use Rattle.std.proofs.lemmas.List.{append-nil, take_all, take-append-le, take_at, get_or_append_left, get_or_push, length_push}
use Rattle.std.proofs.lemmas.List.Elements.{filter_more}
use Rattle.std.proofs.ByRecursion.{all_kept_by, All-from_get_or, All-get_or, kept_by_passes}
use Rattle.std.proofs.lemmas.List.Filters.{length-filter_both}
use Rattle.std.proofs.lemmas.Bool.{cases_Bool, cases_lt, or_cases, or_left, or_right, both_ways, cond-true, cond-false}
use Rattle.model.specs.Lists.{Chain}
use Rattle.model.specs.Fits.{any}

module _ {A : Type 0} where
  pub chain_push : (Next : List A → A → Type 0) (d : A) (xs : List A) (x : A) → Chain Next d xs → Next xs x → Chain Next d (xs ++ (x ∷ []))
  chain_push Next d xs x chain next i less =
      let long : length (xs ++ (x ∷ [])) ≡ length xs + 1 = length_push xs x in
      elim (cases_lt i (length xs)) [
        | inl l ↦
            let e : take i (xs ++ (x ∷ [])) ≡ take i xs = take-append-le i xs (x ∷ []) (omega arith) in
            let f : get_or (xs ++ (x ∷ [])) i d ≡ get_or xs i d = get_or_append_left xs (x ∷ []) d i l in
            rw (e, f) (chain i l)
        | inr g ↦
            let at : length xs ≡ i = omega arith in
            let e : take i (xs ++ (x ∷ [])) ≡ xs = take_at xs (x ∷ []) i at in
            let f : get_or (xs ++ (x ∷ [])) i d ≡ x = get_or_push xs x d i at in
            rw (e, f) next
      ]

  -- A relation that holds of the same places holds along the list.
  pub chain_weaker : (Next More : List A → A → Type 0) (d : A) (xs : List A) → ((i : ℕ) → i < length xs → Next (take i xs) (get_or xs i d) → More (take i xs) (get_or xs i d)) → Chain Next d xs → Chain More d xs
  chain_weaker Next More d xs step chain i less = step i less (chain i less)

  -- The elements that pass a test still fit, where each that passes fits after those before it that pass.
  pub chain_kept_upto : (Next : List A → A → Type 0) (d : A) (test : A → Bool) (xs : List A)
      → ((i : ℕ) → i < length xs → test (get_or xs i d) ≡ true → Next (filter test (take i xs)) (get_or xs i d))
      → (m : ℕ) → m ≤ length xs → Chain Next d (filter test (take m xs))
  chain_kept_upto Next d test xs step zero le = λ i less. absurd (omega arith)
  chain_kept_upto Next d test xs step (suc m) le =
      let before : Chain Next d (filter test (take m xs)) = chain_kept_upto Next d test xs step m (omega arith) in
      let more : filter test (take (suc m) xs) ≡ filter test (take m xs) ++ cond (test (get_or xs m d)) (get_or xs m d ∷ []) [] = rw (← add-one) (filter_more test xs m d (omega arith)) in
      elim (cases_Bool (test (get_or xs m d))) [
        | inl pass ↦
            let e : filter test (take (suc m) xs) ≡ filter test (take m xs) ++ (get_or xs m d ∷ []) = more ∙ ap (λ l. filter test (take m xs) ++ l) (cond-true (test (get_or xs m d)) (get_or xs m d ∷ []) [] pass) in
            rw e (chain_push Next d (filter test (take m xs)) (get_or xs m d) before (step m (omega arith) pass))
        | inr fail ↦
            let e : filter test (take (suc m) xs) ≡ filter test (take m xs) = more ∙ (ap (λ l. filter test (take m xs) ++ l) (cond-false (test (get_or xs m d)) (get_or xs m d ∷ []) [] fail) ∙ append-nil (filter test (take m xs))) in
            rw e before
      ]

  pub chain_kept : (Next : List A → A → Type 0) (d : A) (test : A → Bool) (xs : List A)
      → ((i : ℕ) → i < length xs → test (get_or xs i d) ≡ true → Next (filter test (take i xs)) (get_or xs i d))
      → Chain Next d (filter test xs)
  chain_kept Next d test xs step =
      let whole : take (length xs) xs ≡ xs = take_all (length xs) xs (omega arith) in
      rw whole at (chain_kept_upto Next d test xs step (length xs) (omega arith))

  -- Any of the elements: of two lists joined, at a place, and after a filter.
  pub any_append : (test : A → Bool) (xs ys : List A) → any test (xs ++ ys) ≡ (any test xs || any test ys)
  any_append test [] ys = refl
  any_append test (x ∷ xs) ys = elim (test x) as (λ b. (b || any test (xs ++ ys)) ≡ ((b || any test xs) || any test ys)) [ true ↦ refl | false ↦ any_append test xs ys ]

  pub any_left : (test : A → Bool) (xs ys : List A) → any test xs ≡ true → any test (xs ++ ys) ≡ true
  any_left test xs ys e = any_append test xs ys ∙ or_left (any test xs) (any test ys) e

  pub any_right : (test : A → Bool) (xs ys : List A) → any test ys ≡ true → any test (xs ++ ys) ≡ true
  any_right test xs ys e = any_append test xs ys ∙ or_right (any test xs) (any test ys) e

  pub any_push : (test : A → Bool) (xs : List A) (x : A) → test x ≡ true → any test (xs ++ (x ∷ [])) ≡ true
  any_push test xs x e = any_right test xs (x ∷ []) (or_left (test x) false e)

  pub any_from : (test : A → Bool) (xs : List A) (d : A) (k : ℕ) → k < length xs → test (get_or xs k d) ≡ true → any test xs ≡ true
  any_from test [] d k less e = absurd (omega arith)
  any_from test (x ∷ xs) d zero less e = or_left (test x) (any test xs) e
  any_from test (x ∷ xs) d (suc k) less e = or_right (test x) (any test xs) (any_from test xs d k (omega arith) e)

  pub any_place : (test : A → Bool) (xs : List A) (d : A) → any test xs ≡ true → (k : ℕ) × ((k < length xs) × (test (get_or xs k d) ≡ true))
  any_place test [] d e = absurd (both_ways false refl e)
  any_place test (x ∷ xs) d e =
      elim (or_cases (test x) (any test xs) e) [
        | inl here ↦ (0, (omega arith, here))
        | inr there ↦ let p = any_place test xs d there in (suc p.0, (omega (arith, p.1.0), p.1.1))
      ]

  pub none_at : (test : A → Bool) (xs : List A) (d : A) (k : ℕ) → any test xs ≡ false → k < length xs → test (get_or xs k d) ≡ false
  none_at test xs d k none less =
      elim (cases_Bool (test (get_or xs k d))) [ inl e ↦ absurd (both_ways (any test xs) none (any_from test xs d k less e)) | inr e ↦ e ]

  pub any_kept : (test pass : A → Bool) (xs : List A) → ((x : A) → test x ≡ true → pass x ≡ true) → any test xs ≡ true → any test (filter pass xs) ≡ true
  any_kept test pass [] sub e = e
  any_kept test pass (x ∷ xs) sub e =
      elim (cases_Bool (pass x)) [
        | inl p ↦ rw (cond-true (pass x) (x ∷ filter pass xs) (filter pass xs) p) (elim (or_cases (test x) (any test xs) e) [
          | inl here ↦ or_left (test x) (any test (filter pass xs)) here
          | inr there ↦ or_right (test x) (any test (filter pass xs)) (any_kept test pass xs sub there)
        ])
        | inr f ↦ rw (cond-false (pass x) (x ∷ filter pass xs) (filter pass xs) f) (elim (or_cases (test x) (any test xs) e) [
          | inl here ↦ absurd (both_ways (pass x) f (sub x here))
          | inr there ↦ any_kept test pass xs sub there
        ])
      ]

  pub any_of_kept : (test pass : A → Bool) (xs : List A) → any test (filter pass xs) ≡ true → any test xs ≡ true
  any_of_kept test pass [] e = e
  any_of_kept test pass (x ∷ xs) e =
      elim (cases_Bool (pass x)) [
        | inl p ↦ elim (or_cases (test x) (any test (filter pass xs)) (rw (cond-true (pass x) (x ∷ filter pass xs) (filter pass xs) p) at e)) [
          | inl here ↦ or_left (test x) (any test xs) here
          | inr there ↦ or_right (test x) (any test xs) (any_of_kept test pass xs there)
        ]
        | inr f ↦ or_right (test x) (any test xs) (any_of_kept test pass xs (rw (cond-false (pass x) (x ∷ filter pass xs) (filter pass xs) f) at e))
      ]

  -- What holds at each place holds at each place of what a filter keeps.
  pub kept_each : (P : A → Type 0) (d : A) (pass : A → Bool) (xs : List A) → ((k : ℕ) → k < length xs → P (get_or xs k d)) → (k : ℕ) → k < length (filter pass xs) → P (get_or (filter pass xs) k d)
  kept_each P d pass xs each k less = All-get_or P (filter pass xs) k d less (all_kept_by pass P xs (All-from_get_or P xs d each))

  pub kept_by_le : (pass : A → Bool) (xs : List A) → length (filter pass xs) ≤ length xs
  kept_by_le pass xs = omega (arith, length-filter_both pass (λ x. not (pass x)) (λ x. refl) xs)

  -- What a filter keeps passes its test.
  pub kept_each_passes : (d : A) (pass : A → Bool) (xs : List A) (k : ℕ) → k < length (filter pass xs) → pass (get_or (filter pass xs) k d) ≡ true
  kept_each_passes d pass xs k less = All-get_or (λ x. pass x ≡ true) (filter pass xs) k d less (kept_by_passes pass xs)
