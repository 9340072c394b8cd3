-- An element taken out of a list by its place, where a test tells it apart from all others.
use Rattle.std.proofs.Common.{◌≡◌, ℕ, zero, suc, ◌<◌, Bool, true, false, cond, not, List, [], ◌∷◌, map, length, get_or, take, drop, Some, None, filter, sym, refl, ap, ◌∙◌, subst, inl, inr, arith}
use Rattle.std.specs.List.{remove}
use Rattle.std.proofs.lemmas.List.{map-append, take-map, drop-map, length-map}
use Rattle.std.proofs.lemmas.Bool.{cases_Bool, not_from_false, not_from_true}
use Rattle.model.proofs.Chains.{none_at}
use Rattle.catalogue.specs.Change.{Taken}
use Rattle.records.specs.Find.{Finds}

pub map_removed : {X Y : Type 0} (f : X → Y) (xs : List X) (i : ℕ) → map f (remove xs i) ≡ remove (map f xs) i
map_removed f xs i = rw (map-append f (take i xs) (drop (suc i) xs), take-map f i xs, drop-map f (suc i) xs)

module _ {X : Type 0} (test : X → Bool) (d : X) where
  stays : (x : X) (xs : List X) → test x ≡ false → filter (λ y. not (test y)) (x ∷ xs) ≡ x ∷ filter (λ y. not (test y)) xs
  stays x xs e = ap (λ b. cond b (x ∷ filter (λ y. not (test y)) xs) (filter (λ y. not (test y)) xs)) (not_from_false (test x) e)

  goes : (x : X) (xs : List X) → test x ≡ true → filter (λ y. not (test y)) (x ∷ xs) ≡ filter (λ y. not (test y)) xs
  goes x xs e = ap (λ b. cond b (x ∷ filter (λ y. not (test y)) xs) (filter (λ y. not (test y)) xs)) (not_from_true (test x) e)

  all_stay : (xs : List X) → ((k : ℕ) → k < length xs → test (get_or xs k d) ≡ false) → filter (λ y. not (test y)) xs ≡ xs
  all_stay [] none = refl
  all_stay (x ∷ xs) none =
      stays x xs (none 0 (omega arith)) ∙ ap (λ ys. x ∷ ys) (all_stay xs (λ k less. none (suc k) (omega arith)))

  one_goes : (xs : List X) (i : ℕ) → i < length xs → test (get_or xs i d) ≡ true
      → ((k : ℕ) → k < length xs → (k ≡ i → ⊥) → test (get_or xs k d) ≡ false) → remove xs i ≡ filter (λ y. not (test y)) xs
  one_goes [] i less hit others = absurd (omega arith)
  one_goes (x ∷ xs) zero less hit others =
      sym (goes x xs hit ∙ all_stay xs (λ k inside. others (suc k) (omega arith) (λ e. omega arith)))
  one_goes (x ∷ xs) (suc i) less hit others =
      ap (λ ys. x ∷ ys) (one_goes xs i (omega arith) hit (λ k inside ne. others (suc k) (omega arith) (λ e. ne (omega arith))))
      ∙ sym (stays x xs (others 0 (omega arith) (λ e. omega arith)))

  pub taken_one : (xs : List X) (i : ℕ) → Finds test xs (Some i) → Taken test d xs (remove xs i)
  taken_one xs i found single =
      one_goes xs i found.0 (found.1 d)
      (λ k inside ne.
      elim (cases_Bool (test (get_or xs k d))) [
        | inl also ↦ absurd (ne (single k i inside found.0 also (found.1 d)))
        | inr off ↦ off
      ])

  pub taken_none : (xs : List X) → Finds test xs None → Taken test d xs xs
  taken_none xs found single = sym (all_stay xs (λ k inside. none_at test xs d k found inside))

-- The same, of a slice that lends the items, and through a view of each.
module _ {X Y : Type 0} (f : X → Y) (test : Y → Bool) (d : Y) (slice items : List X) (lent : slice ≡ items) where
  pub taken_place : (i : ℕ) → Finds test (map f slice) (Some i) → i < length items
  taken_place i found = rw lent at (rw (length-map slice f) at found.0)

  pub taken_view : (left : List X) (i : ℕ) → Finds test (map f slice) (Some i) → left ≡ remove items i → Taken test d (map f items) (map f left)
  taken_view left i found is single =
      ap (map f) is ∙ map_removed f items i ∙ taken_one test d (map f items) i (subst (λ (xs : List X). Finds test (map f xs) (Some i)) lent found) single

  pub taken_still : Finds test (map f slice) None → Taken test d (map f items) (map f items)
  taken_still found = taken_none test d (map f items) (subst (λ (xs : List X). Finds test (map f xs) None) lent found)
