-- What is held, one block at a time.
use Rattle.std.proofs.Common.{◌≡◌, ◌≢◌, ℕ, zero, suc, ◌<◌, cond, eqb, ◌⊎◌, List, [], ◌∷◌, ◌++◌, length, get_or, take, set, Some, None, Option, sym, refl, ap, ◌∙◌, inl, inr, arith, eq-eqb, ne_eqb}
use Rattle.std.specs.Option.{MatchOption}
use Rattle.disk.specs.Meaning.{Block}
use Rattle.write_behind.specs.declared.held.Pending.{Pending}
use Rattle.write_behind.specs.Behind.{overlaid, Held, Free, Last, Holds, Place, Added}

-- One more is held.
pub overlaid_push : (k : ℕ) (x : Block) (ps : List Pending) (p : Pending) → overlaid k x (ps ++ (p ∷ [])) ≡ cond (eqb p.at k) p.content (overlaid k x ps)
overlaid_push k x [] p = refl
overlaid_push k x (q ∷ ps) p = overlaid_push k (cond (eqb q.at k) q.content x) ps p

pub held_push : (k : ℕ) (y : Block) (ps : List Pending) (p : Pending) → Held k y (ps ++ (p ∷ [])) → Held k y ps ⊎ ((p.at ≡ k) × (p.content ≡ y))
held_push k y [] p (inl new) = inr new
held_push k y [] p (inr never) = absurd never
held_push k y (q ∷ ps) p (inl here) = inl (inl here)
held_push k y (q ∷ ps) p (inr later) = elim (held_push k y ps p later) [ inl old ↦ inl (inr old) | inr new ↦ inr new ]

pub held_take : (k : ℕ) (y : Block) (ps : List Pending) (i : ℕ) → Held k y (take i ps) → Held k y ps
held_take k y [] zero has = has
held_take k y [] (suc i) has = has
held_take k y (q ∷ ps) zero has = absurd has
held_take k y (q ∷ ps) (suc i) (inl here) = inl here
held_take k y (q ∷ ps) (suc i) (inr later) = inr (held_take k y ps i later)

-- The element at place i is held.
pub held_at : (ps : List Pending) (i : ℕ) (p : Pending) → i < length ps → p ≡ get_or ps i p → Held p.at p.content ps
held_at [] i p less is = absurd (omega arith)
held_at (q ∷ ps) zero p less is = inl (ap (λ r. r.at) (sym is), ap (λ r. r.content) (sym is))
held_at (q ∷ ps) (suc i) p less is = inr (held_at ps i p (omega arith) is)

-- Nothing is held for block k, so the content is the one below.
pub overlaid_free : (k : ℕ) (x : Block) (ps : List Pending) → Free k ps → overlaid k x ps ≡ x
overlaid_free k x [] free = refl
overlaid_free k x (p ∷ ps) free = overlaid_free k (cond (eqb p.at k) p.content x) ps free.1 ∙ simp (ne_eqb p.at k free.0)

-- A place replaced: block b then has the new content, others keep theirs, and nothing else is held than before.
pub overlaid_here : (b : ℕ) (x y : Block) (ps : List Pending) (i : ℕ) (p : Pending) → Last b ps i → Holds b y p → overlaid b x (set ps i p) ≡ y
overlaid_here b x y [] i p last holds = absurd last
overlaid_here b x y (q ∷ ps) i p (inl first) holds =
    rw first.0 (overlaid_free b (cond (eqb p.at b) p.content x) ps first.2 ∙ simp (eq-eqb p.at b holds.0) holds.1)
overlaid_here b x y (q ∷ ps) i p (inr later) holds =
    rw later.1.0 (overlaid_here b (cond (eqb q.at b) q.content x) y ps later.0 p later.1.1 holds)

pub overlaid_others : (b k : ℕ) (x y : Block) (ps : List Pending) (i : ℕ) (p : Pending) → Last b ps i → Holds b y p → (k ≡ b → ⊥) → overlaid k x (set ps i p) ≡ overlaid k x ps
overlaid_others b k x y [] i p last holds other = absurd last
overlaid_others b k x y (q ∷ ps) i p (inl first) holds other =
    rw first.0 (ap (λ z. overlaid k z ps) (simp (ne_eqb p.at k (λ e. other (sym e ∙ holds.0)), ne_eqb q.at k (λ e. other (sym e ∙ first.1)))))
overlaid_others b k x y (q ∷ ps) i p (inr later) holds other =
    rw later.1.0 (overlaid_others b k (cond (eqb q.at k) q.content x) y ps later.0 p later.1.1 holds other)

pub held_set : (k : ℕ) (y : Block) (ps : List Pending) (i : ℕ) (p : Pending) → Held k y (set ps i p) → Held k y ps ⊎ ((p.at ≡ k) × (p.content ≡ y))
held_set k y [] i p held = absurd held
held_set k y (q ∷ ps) zero p (inl new) = inr new
held_set k y (q ∷ ps) zero p (inr later) = inl (inr later)
held_set k y (q ∷ ps) (suc i) p (inl here) = inl (inl here)
held_set k y (q ∷ ps) (suc i) p (inr later) = elim (held_set k y ps i p later) [ inl old ↦ inl (inr old) | inr new ↦ inr new ]

pub free_push : (b : ℕ) (ps : List Pending) (p : Pending) → Free b ps → (p.at ≡ b → ⊥) → Free b (ps ++ (p ∷ []))
free_push b [] p free other = (other, tt)
free_push b (q ∷ ps) p free other = (free.0, free_push b ps p free.1 other)

pub last_less : (b : ℕ) (ps : List Pending) (i : ℕ) → Last b ps i → i < length ps
last_less b [] i last = absurd last
last_less b (q ∷ ps) i (inl first) = omega (arith, first.0)
last_less b (q ∷ ps) i (inr later) = omega (arith, later.1.0, last_less b ps later.0 later.1.1)

-- The last place that is held for block b: nothing after it is.
free_from : (b : ℕ) (ps : List Pending) → ((k : ℕ) (d : Pending) → k < length ps → (get_or ps k d).at ≢ b) → Free b ps
free_from b [] none = tt
free_from b (p ∷ ps) none = (none 0 p (omega arith), free_from b ps (λ k d less. none (suc k) d (omega arith)))

last_at : (b : ℕ) (ps : List Pending) (i : ℕ) → i < length ps → ((d : Pending) → (get_or ps i d).at ≡ b) → ((k : ℕ) (d : Pending) → i < k → k < length ps → (get_or ps k d).at ≢ b) → Last b ps i
last_at b [] i less here after = absurd (omega arith)
last_at b (p ∷ ps) zero less here after = inl (refl, here p, free_from b ps (λ k d inside. after (suc k) d (omega arith) (omega arith)))
last_at b (p ∷ ps) (suc i) less here after = inr (i, (refl, last_at b ps i (omega arith) here (λ k d more inside. after (suc k) d (omega arith) (omega arith))))

pub place_found : (b : ℕ) (ps : List Pending) (r : Option ℕ)
    → MatchOption r ((k : ℕ) (d : Pending) → k < length ps → (get_or ps k d).at ≢ b) (λ i. (i < length ps) × ((d : Pending) → (get_or ps i d).at ≡ b) × ((k : ℕ) (d : Pending) → i < k → k < length ps → (get_or ps k d).at ≢ b))
    → Place b ps r
place_found b ps None none = free_from b ps none
place_found b ps (Some i) found = last_at b ps i found.0 found.1 found.2

-- What is held for block b lies over its content.
pub overlaid_last : (b : ℕ) (x : Block) (ps : List Pending) (i : ℕ) (p : Pending) → Last b ps i → p ≡ get_or ps i p → overlaid b x ps ≡ p.content
overlaid_last b x [] i p last is = absurd last
overlaid_last b x (q ∷ ps) i p (inl first) is =
    let is' : p ≡ q = rw first.0 at is in
    overlaid_free b (cond (eqb q.at b) q.content x) ps first.2 ∙ simp (eq-eqb q.at b first.1) (ap (λ r. r.content) (sym is'))
overlaid_last b x (q ∷ ps) i p (inr later) is =
    let is' : p ≡ get_or ps later.0 p = rw later.1.0 at is in overlaid_last b (cond (eqb q.at b) q.content x) ps later.0 p later.1.1 is'

-- p is held as the newest.
pub added_newest : (p : Pending) (ps qs : List Pending) → qs ≡ ps ++ (p ∷ []) → Added p.at p.content ps qs
added_newest p ps qs is = (p, ((refl, refl), is))
