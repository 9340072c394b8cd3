-- A search that keeps the first of the greatest elements so far.
use Rattle.std.proofs.Common.{◌≡◌, ℕ, ◌+◌, ◌<◌, Bool, true, false, cond, List, [], ◌∷◌, length, get_or, drop, Decides, MatchOption, Less, Equal, Greater, Some, None, Option, Ordering, sym, refl, ap, ◌∙◌, subst, arith}
use Rattle.std.specs.List.{fold, reduce, filter, enumerate_from, FoldsTo}
use Rattle.std.specs.Ordering.{min_by_ordering}
use Rattle.std.specs.Iterator.{Drains, PicksByCall, PickTurn}
use Rattle.std.specs.Fn.{CalledAtTwo}
use Rattle.std.proofs.lemmas.Iterator.{YieldsList}
use Rattle.std.proofs.lemmas.Iterator.Consumers.{reduce_by_from_yields_List}
use denote.Param.Members.{Mut}
use denote.Ref.{Bor}
use Rattle.std.specs.Option.{option_map}
use native.Mathlib.Decide.{dec_lt, ℕ_discrete}
use Rattle.std.proofs.lemmas.List.{drop_more, get_or_default, length-drop}
use Rattle.std.proofs.lemmas.Bool.{false≢true}
use Rattle.order.specs.Law.{Lawful, After}
use Rattle.order.specs.Search.{Seen, Top, Greatest}
use Rattle.order.proofs.Laws.{after_once, after_more}

module _ {X : Type 0} (cmp : X → X → Ordering) (xs : List X) where
  -- The answer depends on no more than the places that are seen.
  pub seen_alike : (P Q : ℕ → Type 0) → ((k : ℕ) → Seen cmp xs P k → Q k) → ((k : ℕ) → Seen cmp xs Q k → P k)
      → (r : Option ℕ) → Greatest cmp xs P r → Greatest cmp xs Q r
  seen_alike P Q to from None h = λ k s. h k (s.0, from k s)
  seen_alike P Q to from (Some i) h =
      let turn : (k : ℕ) → Top cmp xs Q k → Top cmp xs P k =
      λ k t. ((t.0.0, from k t.0), λ j d s. t.1 j d (s.0, to j s)) in
      (((h.0.0.0, to i h.0.0), λ k d s. h.0.1 k d (s.0, from k s)), λ k t. h.1 k (turn k t))

module _ {X : Type 0} (cmp : X → X → Ordering) (law : Lawful cmp) (xs : List X) (held : ℕ → Type 0) where
  -- The places below i that are looked at.
  abbrev pub Among : ℕ → ℕ → Type 0
  Among i k = (k < i) × held k

  abbrev pub SoFar : ℕ → Option ℕ → Type 0
  SoFar i r = Greatest cmp xs (Among i) r

  pub so_far_none : SoFar 0 None
  so_far_none k s = omega (arith, s.1.0)

  more_or_last : (i k : ℕ) → k < i + 1 → (k ≡ i → ⊥) → k < i
  more_or_last i k h ne = omega arith

  -- Place i is not looked at.
  pub so_far_passes : (i : ℕ) (r : Option ℕ) → (held i → ⊥) → SoFar i r → SoFar (i + 1) r
  so_far_passes i r out =
      seen_alike cmp xs (Among i) (Among (i + 1)) (λ k s. (omega (arith, s.1.0), s.1.1))
      (λ k s.
      elim (ℕ_discrete k i) [
        | yes e ↦ absurd (out (rw e at s.1.1))
        | no ne ↦ (more_or_last i k s.1.0 ne, s.1.1)
      ])
      r

  module _ (i : ℕ) (x : X) (inside : i < length xs) (read : x ≡ get_or xs i x) where
    here : (d : X) → get_or xs i d ≡ x
    here d = get_or_default xs i d x inside ∙ sym read

    -- The element x at place i is looked at, and does not come after the best so far.
    pub so_far_keeps : (b : ℕ) → SoFar i (Some b) → ((d : X) → After cmp x (get_or xs b d) → ⊥) → SoFar (i + 1) (Some b)
    so_far_keeps b h less = (
      (
        (h.0.0.0, (omega (arith, h.0.0.1.0), h.0.0.1.1)),
        λ k d s after.
            elim (ℕ_discrete k i) [
              | yes e ↦ less d (subst (λ (y : X). After cmp y (get_or xs b d)) (ap (λ (n : ℕ). get_or xs n d) e ∙ here d) after)
              | no ne ↦ h.0.1 k d (s.0, (more_or_last i k s.1.0 ne, s.1.1)) after
            ],
      ),
      λ k t.
          elim (ℕ_discrete k i) [
            | yes e ↦ omega (arith, h.0.0.1.0)
            | no ne ↦
                h.1 k (
                  (t.0.0, (more_or_last i k t.0.1.0 ne, t.0.1.1)),
                  λ j d s. t.1 j d (s.0, (omega (arith, s.1.0), s.1.1)),
                )
          ],
    )

    -- It comes after every element that was looked at before.
    so_far_takes_by : held i → ((k : ℕ) (d : X) → Seen cmp xs (Among i) k → After cmp x (get_or xs k d)) → SoFar (i + 1) (Some i)
    so_far_takes_by looked more = (
      (
        (inside, (omega arith, looked)),
        λ k d s after.
            elim (ℕ_discrete k i) [
              | yes e ↦
                  let same : get_or xs k d ≡ get_or xs i d = ap (λ (n : ℕ). get_or xs n d) e in
                  let self = subst (λ (y : X). After cmp y (get_or xs i d)) same after in
                  after_once cmp law (get_or xs i d) (get_or xs i d) self self
              | no ne ↦
                  let seen : Seen cmp xs (Among i) k = (s.0, (more_or_last i k s.1.0 ne, s.1.1)) in
                  after_once cmp law x (get_or xs k d) (more k d seen) (subst (λ (y : X). After cmp (get_or xs k d) y) (here d) after)
            ],
      ),
      λ k t.
          elim (dec_lt k i) [
            | yes p ↦
                let after = more k x (t.0.0, (p, t.0.1.1)) in
                absurd (t.1 i x (inside, (omega arith, looked)) (subst (λ (y : X). After cmp y (get_or xs k x)) (sym (here x)) after))
            | no q ↦ omega arith
          ],
    )

    pub so_far_first : held i → SoFar i None → SoFar (i + 1) (Some i)
    so_far_first looked h = so_far_takes_by looked (λ k d s. absurd (h k s))

    pub so_far_takes : (b : ℕ) → held i → SoFar i (Some b) → ((d : X) → After cmp x (get_or xs b d)) → SoFar (i + 1) (Some i)
    so_far_takes b looked h wins = so_far_takes_by looked (λ k d s. after_more cmp law (get_or xs k d) (get_or xs b d) x (wins d) (h.0.1 k d s))

-- The better of two elements with their places: the later one where it comes after the earlier, and else the earlier.
module _ {X : Type 0} (cmp : X → X → Ordering) (law : Lawful cmp) (xs : List X) (held : ℕ → Type 0) (test : ℕ → Bool) (tells : (k : ℕ) → Decides (test k) (held k)) where
  abbrev pub better : ℕ × X → ℕ × X → ℕ × X
  better p z = min_by_ordering (cmp z.1 p.1) p z

  abbrev pub passing : ℕ → List X → List (ℕ × X)
  passing n ys = filter (λ q. test q.0) (enumerate_from n ys)

  abbrev At : ℕ × X → Type 0
  At p = (p.0 < length xs) × ((d : X) → get_or xs p.0 d ≡ p.1)

  not_less : Less ≡ Greater → ⊥
  not_less e = let z : ◌≡◌ {A = ℕ} 0 1 = cc in omega arith

  not_equal : Equal ≡ Greater → ⊥
  not_equal e = let z : ◌≡◌ {A = ℕ} 0 1 = cc in omega arith

  at_head : (n : ℕ) (y : X) (ys : List X) → drop n xs ≡ y ∷ ys → At (n, y)
  at_head n y ys e =
      let less : n < length xs = omega (arith, length-drop n xs, ap length e) in (less, λ d. ap (λ l. get_or l 0 d) (sym (drop_more xs n d less) ∙ e))

  at_tail : (n : ℕ) (y : X) (ys : List X) → drop n xs ≡ y ∷ ys → drop (n + 1) xs ≡ ys
  at_tail n y ys e = let here = at_head n y ys e in ap (drop 1) (sym (drop_more xs n y here.0) ∙ e)

  turn : (o : Ordering) (n : ℕ) (y : X) (p : ℕ × X) → cmp y p.1 ≡ o → held n → At (n, y) → At p → SoFar cmp law xs held n (Some p.0)
      → SoFar cmp law xs held (n + 1) (Some (min_by_ordering o p (n, y)).0) × At (min_by_ordering o p (n, y))
  turn Less n y p e looked here at h = (so_far_keeps cmp law xs held n y here.0 (sym (here.1 y)) p.0 h (λ d more. not_less (sym e ∙ sym (ap (cmp y) (at.1 d)) ∙ more)), at)
  turn Equal n y p e looked here at h = (so_far_keeps cmp law xs held n y here.0 (sym (here.1 y)) p.0 h (λ d more. not_equal (sym e ∙ sym (ap (cmp y) (at.1 d)) ∙ more)), at)
  turn Greater n y p e looked here at h = (so_far_takes cmp law xs held n y here.0 (sym (here.1 y)) p.0 looked h (λ d. ap (cmp y) (at.1 d) ∙ e), here)

  kept_by : (b : Bool) (y : X) (ys : List X) (n : ℕ) (p : ℕ × X) → test n ≡ b → drop n xs ≡ y ∷ ys → At p → SoFar cmp law xs held n (Some p.0)
      → ((q : ℕ × X) → At q → SoFar cmp law xs held (n + 1) (Some q.0) → SoFar cmp law xs held (n + 1 + length ys) (Some (fold better q (passing (n + 1) ys)).0))
      → SoFar cmp law xs held (n + 1 + length ys) (Some (fold better p (cond b ((n, y) ∷ passing (n + 1) ys) (passing (n + 1) ys))).0)
  kept_by true y ys n p t e at h more =
      let next = turn (cmp y p.1) n y p refl ((tells n).0 t) (at_head n y ys e) at h in more (better p (n, y)) next.1 next.0
  kept_by false y ys n p t e at h more =
      more p at (so_far_passes cmp law xs held n (Some p.0) (λ looked. false≢true (sym t ∙ (tells n).1 looked)) h)

  kept : (ys : List X) (n : ℕ) (p : ℕ × X) → drop n xs ≡ ys → At p → SoFar cmp law xs held n (Some p.0)
      → SoFar cmp law xs held (n + length ys) (Some (fold better p (passing n ys)).0)
  kept [] n p e at h = subst (λ m. SoFar cmp law xs held m (Some p.0)) (omega arith) h
  kept (y ∷ ys) n p e at h =
      subst (λ m. SoFar cmp law xs held m (Some (fold better p (passing n (y ∷ ys))).0)) (omega arith)
      (kept_by (test n) y ys n p refl e at h (λ q. kept ys (n + 1) q (at_tail n y ys e)))

  reduced_by : (b : Bool) (y : X) (ys : List X) (n : ℕ) → test n ≡ b → drop n xs ≡ y ∷ ys → SoFar cmp law xs held n None
      → (SoFar cmp law xs held (n + 1) None → SoFar cmp law xs held (n + 1 + length ys) (option_map (λ p. p.0) (reduce better (passing (n + 1) ys))))
      → SoFar cmp law xs held (n + 1 + length ys) (option_map (λ p. p.0) (reduce better (cond b ((n, y) ∷ passing (n + 1) ys) (passing (n + 1) ys))))
  reduced_by true y ys n t e h more =
      let here = at_head n y ys e in
      let first = so_far_first cmp law xs held n y here.0 (sym (here.1 y)) ((tells n).0 t) h in
      kept ys (n + 1) (n, y) (at_tail n y ys e) here first
  reduced_by false y ys n t e h more = more (so_far_passes cmp law xs held n None (λ looked. false≢true (sym t ∙ (tells n).1 looked)) h)

  reduced : (ys : List X) (n : ℕ) → drop n xs ≡ ys → SoFar cmp law xs held n None → SoFar cmp law xs held (n + length ys) (option_map (λ p. p.0) (reduce better (passing n ys)))
  reduced [] n e h = subst (λ m. SoFar cmp law xs held m None) (omega arith) h
  reduced (y ∷ ys) n e h =
      subst (λ m. SoFar cmp law xs held m (option_map (λ p. p.0) (reduce better (passing n (y ∷ ys))))) (omega arith)
      (reduced_by (test n) y ys n refl e h (reduced ys (n + 1) (at_tail n y ys e)))

  -- What a chain that keeps the better of two answers.
  pub greatest_reduced : (r : Option (ℕ × X)) → r ≡ reduce better (passing 0 xs) → Greatest cmp xs held (option_map (λ p. p.0) r)
  greatest_reduced r told =
      rw told (seen_alike cmp xs (Among cmp law xs held (0 + length xs)) held (λ k s. s.1.1) (λ k s. (omega (arith, s.0), s.1)) _ (reduced xs 0 refl (so_far_none cmp law xs held)))

-- The turns of `min_by` as steps of a fold, where the closure answers what `order` does.
pub turns : {A F : Type 0} (g : Mut F (Bor A × (Bor A × Unit {0})) Ordering) (f : F) (order : A → A → Ordering)
    → ((p z : A) (o : Ordering) (q : F) → CalledAtTwo g f p z o q → (q ≡ f) × (o ≡ order p z))
    → (xs : List A) (x y : A) (f' h : F) → h ≡ f → FoldsTo {P = F × A} (PickTurn min_by_ordering g) (h, x) xs (f', y)
    → FoldsTo (λ p z c. c ≡ min_by_ordering (order p z) p z) x xs y
turns g f order says [] x y f' h is e = ap (λ p. p.1) e
turns {A} g f order says (z ∷ xs) x y f' h is (j, (o, called, picked), rest) =
    let said = says x z o j.0 (subst (λ k. CalledAtTwo g k x z o j.0) is called) in
    (j.1, picked ∙ ap (λ a. min_by_ordering a x z) said.1, turns g f order says xs j.1 y f' j.0 said.0 rest)

pub read_pick : {A B : Type 0} (v : A → B) (o : Ordering) (p z : A) → v (min_by_ordering o p z) ≡ min_by_ordering o (v p) (v z)
read_pick v Less p z = refl
read_pick v Equal p z = refl
read_pick v Greater p z = refl

pub picks : {S A F : Type 0} (steps : S → Option A → S → Type 0) (g : Mut F (Bor A × (Bor A × Unit {0})) Ordering) (s : S) (f : F) (order : A → A → Ordering)
    → ((p z : A) (o : Ordering) (q : F) → CalledAtTwo g f p z o q → (q ≡ f) × (o ≡ order p z))
    → (r : Option A) → PicksByCall steps min_by_ordering g s f r
    → MatchOption r (Drains steps s []) (λ y. (x : A) × (xs : List A) × Drains steps s (x ∷ xs) × FoldsTo (λ p z c. c ≡ min_by_ordering (order p z) p z) x xs y)
picks steps g s f order says None h = h
picks steps g s f order says (Some y) (x, xs, f', drained, folds) = (x, xs, drained, turns g f order says xs x y f' f refl folds)

-- What `min_by` of the passing elements and their places answers.
module _ {X : Type 0} (cmp : X → X → Ordering) (law : Lawful cmp) (xs : List X) (held : ℕ → Type 0) (test : ℕ → Bool) (tells : (k : ℕ) → Decides (test k) (held k)) where
  abbrev pub read : ℕ × Bor X → ℕ × X
  read p = (p.0, p.1.now)

  read_place : (r : Option (ℕ × Bor X)) → option_map (λ p. p.0) (option_map read r) ≡ option_map (λ p. p.0) r
  read_place None = refl
  read_place (Some p) = refl

  pub greatest_picked : {S F : Type 0} (steps : S → Option (ℕ × Bor X) → S → Type 0) (g : Mut F (Bor (ℕ × Bor X) × (Bor (ℕ × Bor X) × Unit {0})) Ordering) (s : S) (f : F)
      → ((p z : ℕ × Bor X) (o : Ordering) (q : F) → CalledAtTwo g f p z o q → (q ≡ f) × (o ≡ cmp z.1.now p.1.now))
      → (r : Option (ℕ × Bor X)) → PicksByCall steps min_by_ordering g s f r → YieldsList steps read s (passing cmp law xs held test tells 0 xs)
      → Greatest cmp xs held (option_map (λ p. p.0) r)
  greatest_picked steps g s f says r ran yields =
      let order : ℕ × Bor X → ℕ × Bor X → Ordering = λ p z. cmp z.1.now p.1.now in
      subst (λ q. Greatest cmp xs held q) (read_place r)
      (greatest_reduced cmp law xs held test tells (option_map read r)
      (reduce_by_from_yields_List {v = read} (λ p z. min_by_ordering (order p z) p z) (better cmp law xs held test tells) s r
      (λ p z. read_pick read (order p z) p z) (picks steps g s f order says r ran) yields))

-- What `map` answers, where it answers as `v` does.
pub mapped : {A B : Type 0} (v : A → B) (r : Option A) (q : Option B) (Told : A → Type 0) → MatchOption r (q ≡ None) Told
    → ((x : A) → Told x → q ≡ Some (v x)) → q ≡ option_map v r
mapped v None q Told told says = told
mapped v (Some x) q Told told says = says x told
