-- Sets of hashes, lists by holder, and the path of a hash.
use Rattle.std.proofs.Common.{◌≡◌, ℕ, zero, suc, ◌+◌, ◌<◌, ◌≤◌, Bool, true, false, ◌≢◌, ◌⊎◌, List, [], ◌∷◌, length, get_or, set, replicate, Some, None, Option, refl, ap, ◌∙◌, inl, inr, arith}
use Rattle.std.specs.Str.{bytes_eq}
use Rattle.std.proofs.lemmas.Bool.{cases_Bool, or_cases, or_left, or_right, both_ways, cond-true, cond-false}
use Rattle.model.specs.Plain.{Bytes, Path, no_path}
use Rattle.model.specs.Fits.{any, has_hash}
use Rattle.model.proofs.Sounds.{same_is, is_same}
use Rattle.ledger.specs.State.{has, somes, the_path}

module _ {A : Type 0} (test : A → Bool) where
  -- One element replaced.
  pub any_set : (xs : List A) (i : ℕ) (x : A) → any test (set xs i x) ≡ true → (test x ≡ true) ⊎ (any test xs ≡ true)
  any_set [] i x e = inr e
  any_set (y ∷ ys) zero x e = elim (or_cases (test x) (any test ys) e) [ inl h ↦ inl h | inr t ↦ inr (or_right (test y) (any test ys) t) ]
  any_set (y ∷ ys) (suc i) x e = elim (or_cases (test y) (any test (set ys i x)) e) [
    | inl h ↦ inr (or_left (test y) (any test ys) h)
    | inr t ↦ elim (any_set ys i x t) [ inl here ↦ inl here | inr there ↦ inr (or_right (test y) (any test ys) there) ]
  ]

  pub any_set_there : (xs : List A) (i : ℕ) (x : A) → i < length xs → test x ≡ true → any test (set xs i x) ≡ true
  any_set_there [] i x less e = absurd (omega arith)
  any_set_there (y ∷ ys) zero x less e = or_left (test x) (any test ys) e
  any_set_there (y ∷ ys) (suc i) x less e = or_right (test y) (any test (set ys i x)) (any_set_there ys i x (omega arith) e)

  -- Where the new element passes if the old one did.
  pub any_set_more : (xs : List A) (i : ℕ) (x d : A) → (test (get_or xs i d) ≡ true → test x ≡ true) → any test xs ≡ true → any test (set xs i x) ≡ true
  any_set_more [] i x d more e = e
  any_set_more (y ∷ ys) zero x d more e = elim (or_cases (test y) (any test ys) e) [ inl h ↦ or_left (test x) (any test ys) (more h) | inr t ↦ or_right (test x) (any test ys) t ]
  any_set_more (y ∷ ys) (suc i) x d more e = elim (or_cases (test y) (any test ys) e) [
    | inl h ↦ or_left (test y) (any test (set ys i x)) h
    | inr t ↦ or_right (test y) (any test (set ys i x)) (any_set_more ys i x d more t)
  ]

-- A hash among hashes.
pub has_head : (q : Bytes) (qs : List Bytes) → has q (q ∷ qs) ≡ true
has_head q qs = or_left (bytes_eq q q) (has q qs) (is_same q q refl)

pub has_tail : (q x : Bytes) (qs : List Bytes) → has q qs ≡ true → has q (x ∷ qs) ≡ true
has_tail q x qs e = or_right (bytes_eq x q) (has q qs) e

pub has_cases : (q x : Bytes) (qs : List Bytes) → has q (x ∷ qs) ≡ true → (x ≡ q) ⊎ (has q qs ≡ true)
has_cases q x qs e = elim (or_cases (bytes_eq x q) (has q qs) e) [ inl s ↦ inl (same_is x q s) | inr t ↦ inr t ]

module _ {A : Type 0} where
  pub somes_none_le : (xs : List (Option A)) (h : ℕ) → length (somes (set xs h None)) ≤ length (somes xs)
  somes_none_le [] h = omega arith
  somes_none_le (None ∷ xs) zero = omega arith
  somes_none_le (Some x ∷ xs) zero = omega arith
  somes_none_le (None ∷ xs) (suc h) = somes_none_le xs h
  somes_none_le (Some x ∷ xs) (suc h) = let r = somes_none_le xs h in omega arith

  pub somes_end : (xs : List (Option A)) (h : ℕ) (x : A) → get_or xs h None ≡ Some x → length (somes (set xs h None)) + 1 ≡ length (somes xs)
  somes_end [] h x e = let z : ◌≡◌ {A = ℕ} 0 1 = cc in absurd (omega arith)
  somes_end (None ∷ xs) zero x e = let z : ◌≡◌ {A = ℕ} 0 1 = cc in absurd (omega arith)
  somes_end (Some y ∷ xs) zero x e = omega arith
  somes_end (None ∷ xs) (suc h) x e = somes_end xs h x e
  somes_end (Some y ∷ xs) (suc h) x e = let r = somes_end xs h x e in omega arith

  pub somes_begin : (xs : List (Option A)) (h : ℕ) (x : A) → h < length xs → get_or xs h None ≡ None → length (somes (set xs h (Some x))) ≡ length (somes xs) + 1
  somes_begin [] h x less e = absurd (omega arith)
  somes_begin (None ∷ xs) zero x less e = omega arith
  somes_begin (Some y ∷ xs) zero x less e = let z : ◌≡◌ {A = ℕ} 0 1 = cc in absurd (omega arith)
  somes_begin (None ∷ xs) (suc h) x less e = somes_begin xs h x (omega arith) e
  somes_begin (Some y ∷ xs) (suc h) x less e = let r = somes_begin xs h x (omega arith) e in omega arith

  pub somes_change : (xs : List (Option A)) (h : ℕ) (x y : A) → get_or xs h None ≡ Some x → length (somes (set xs h (Some y))) ≡ length (somes xs)
  somes_change [] h x y e = refl
  somes_change (None ∷ xs) zero x y e = let z : ◌≡◌ {A = ℕ} 0 1 = cc in absurd (omega arith)
  somes_change (Some w ∷ xs) zero x y e = refl
  somes_change (None ∷ xs) (suc h) x y e = somes_change xs h x y e
  somes_change (Some w ∷ xs) (suc h) x y e = ap suc (somes_change xs h x y e)

  -- A build is among all builds, and one of those belongs to a holder.
  pub somes_has : (test : A → Bool) (xs : List (Option A)) (h : ℕ) (x : A) → get_or xs h None ≡ Some x → test x ≡ true → any test (somes xs) ≡ true
  somes_has test [] h x e t = let z : ◌≡◌ {A = ℕ} 0 1 = cc in absurd (omega arith)
  somes_has test (None ∷ xs) zero x e t = let z : ◌≡◌ {A = ℕ} 0 1 = cc in absurd (omega arith)
  somes_has test (Some y ∷ xs) zero x e t = let same : y ≡ x = cc in or_left (test y) (any test (somes xs)) (ap test same ∙ t)
  somes_has test (None ∷ xs) (suc h) x e t = somes_has test xs h x e t
  somes_has test (Some y ∷ xs) (suc h) x e t = or_right (test y) (any test (somes xs)) (somes_has test xs h x e t)

  pub somes_place : (xs : List (Option A)) (h : ℕ) (x d : A) → get_or xs h None ≡ Some x → (k : ℕ) × ((k < length (somes xs)) × (get_or (somes xs) k d ≡ x))
  somes_place [] h x d e = let z : ◌≡◌ {A = ℕ} 0 1 = cc in absurd (omega arith)
  somes_place (None ∷ xs) zero x d e = let z : ◌≡◌ {A = ℕ} 0 1 = cc in absurd (omega arith)
  somes_place (Some y ∷ xs) zero x d e = let same : y ≡ x = cc in (0, (omega arith, same))
  somes_place (None ∷ xs) (suc h) x d e = somes_place xs h x d e
  somes_place (Some y ∷ xs) (suc h) x d e = let r = somes_place xs h x d e in (suc r.0, (omega (arith, r.1.0), r.1.1))

-- The path of a registered hash stands in a row, and has that hash.
pub the_path_row : (q : Bytes) (ps : List Path) → has_hash q ps ≡ true → (k : ℕ) × ((k < length ps) × (the_path q ps ≡ get_or ps k no_path) × ((get_or ps k no_path).hash ≡ q))
the_path_row q [] e = absurd (both_ways false refl e)
the_path_row q (p ∷ ps) e =
    elim (cases_Bool (bytes_eq p.hash q)) [
      | inl s ↦ (0, (omega arith, cond-true (bytes_eq p.hash q) p (the_path q ps) s, same_is p.hash q s))
      | inr f ↦
          let later : has_hash q ps ≡ true = elim (or_cases (bytes_eq p.hash q) (has_hash q ps) e) [ inl s ↦ absurd (both_ways (bytes_eq p.hash q) f s) | inr t ↦ t ] in
          let r = the_path_row q ps later in
          (suc r.0, (omega (arith, r.1.0), cond-false (bytes_eq p.hash q) p (the_path q ps) f ∙ r.1.1, r.1.2))
    ]

-- Who builds what after one holder's build has ended, or has changed.
module _ {A : Type 0} where
  pub still_there : (xs : List (Option A)) (h k : ℕ) (x : A) → get_or (set xs h None) k None ≡ Some x → (get_or xs k None ≡ Some x) × (k ≢ h)
  still_there [] h k x e = let z : ◌≡◌ {A = ℕ} 0 1 = cc in absurd (omega arith)
  still_there (y ∷ ys) zero zero x e = let z : ◌≡◌ {A = ℕ} 0 1 = cc in absurd (omega arith)
  still_there (y ∷ ys) zero (suc k) x e = (e, λ same. omega arith)
  still_there (y ∷ ys) (suc h) zero x e = (e, λ same. omega arith)
  still_there (y ∷ ys) (suc h) (suc k) x e = let r = still_there ys h k x e in (r.0, λ same. r.1 (omega arith))

  pub there_or_new : (xs : List (Option A)) (h k : ℕ) (new x : A) → get_or (set xs h (Some new)) k None ≡ Some x → ((k ≡ h) × (new ≡ x)) ⊎ ((k ≢ h) × (get_or xs k None ≡ Some x))
  there_or_new [] h k new x e = let z : ◌≡◌ {A = ℕ} 0 1 = cc in absurd (omega arith)
  there_or_new (y ∷ ys) zero zero new x e = inl (refl, cc)
  there_or_new (y ∷ ys) zero (suc k) new x e = inr (λ same. omega arith, e)
  there_or_new (y ∷ ys) (suc h) zero new x e = inr (λ same. omega arith, e)
  there_or_new (y ∷ ys) (suc h) (suc k) new x e = elim (there_or_new ys h k new x e) [ inl i ↦ inl (ap suc i.0, i.1) | inr o ↦ inr (λ same. o.0 (omega arith), o.1) ]

  pub none_there : (m k : ℕ) (x : A) → get_or (replicate m None) k None ≡ Some x → ⊥
  none_there zero k x e = let z : ◌≡◌ {A = ℕ} 0 1 = cc in omega arith
  none_there (suc m) zero x e = let z : ◌≡◌ {A = ℕ} 0 1 = cc in omega arith
  none_there (suc m) (suc k) x e = none_there m k x e

  pub none_unless : (o : Option A) → ((x : A) → o ≡ Some x → ⊥) → o ≡ None
  none_unless None no-some = refl
  none_unless (Some x) no-some = absurd (no-some x refl)

  pub some_same : {x y : A} → Some x ≡ Some y → x ≡ y
  some_same e = cc
