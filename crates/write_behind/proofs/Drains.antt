-- What comes of the held blocks as they are brought to the disk below, one after the other.
use Rattle.std.proofs.Common.{◌≡◌, ℕ, ◌+◌, ◌<◌, true, false, ◌⊎◌, List, [], ◌∷◌, ◌++◌, length, get_or, take, Err, Result, sym, refl, ap, ◌∙◌, inl, inr, arith, eq-eqb, ne_eqb}
use native.Mathlib.Decide.{ℕ_discrete}
use Rattle.std.proofs.lemmas.List.{take_more}
use Rattle.std.proofs.lemmas.Bool.{both_ways}
use Rattle.disk.specs.declared.Fault.{Fault}
use Rattle.disk.specs.declared.Fault.TheVariants.{Dark, NoBlock}
use Rattle.disk.specs.Meaning.{Block, Meaning, GainsOnly, Torn}
use Rattle.write_behind.specs.declared.held.Pending.{Pending}
use Rattle.write_behind.specs.Behind.{overlaid, Held}
use Rattle.write_behind.specs.Order.{Sent, StoppedAt, Send, Drained, Drain, Cut}
use Rattle.write_behind.proofs.Helds.{held_take, held_at}

-- No set gains a content, except what is held.
abbrev pub GainsHeld : List Pending → Meaning → Meaning → Type 0
GainsHeld ps m m' = (k : ℕ) (y : Block) → k < m.blocks → m'.may k y → m.may k y ⊎ Held k y ps

-- All of ps came to the disk.
pub record Flushed (m : Meaning) (ps : List Pending) (m' : Meaning) : Type 0 where
  pub size : m'.blocks ≡ m.blocks
  pub light : m'.lit ≡ true
  pub contents : (k : ℕ) → k < m.blocks → m'.present k ≡ overlaid k (m.present k) ps
  pub gains : GainsHeld ps m m'

-- The disk went dark, and some of ps came to it.
pub record Stopped (m : Meaning) (ps : List Pending) (m' : Meaning) : Type 0 where
  pub size : m'.blocks ≡ m.blocks
  pub dark : m'.lit ≡ false
  pub gains : GainsHeld ps m m'

-- One block.
module _ (m : Meaning) (p : Pending) (m' : Meaning) where
  gains_one : GainsOnly p.at p.content m m' → GainsHeld (p ∷ []) m m'
  gains_one gains k y less found = elim (gains k y less found) [ inl old ↦ inl old | inr new ↦ inr (inl (sym new.0, sym new.1)) ]

  pub sent_flushed : m.lit ≡ true → Sent m p m' → Flushed m (p ∷ []) m'
  sent_flushed lit (inl w) = record {
    size = w.size;
    light = w.light;
    contents = λ k less. elim (ℕ_discrete k p.at) [
      | yes same ↦ rw same (w.here ∙ simp (eq-eqb p.at p.at refl))
      | no other ↦ w.others k less other ∙ simp (ne_eqb p.at k (λ e. other (sym e)))
    ];
    gains = gains_one w.gains;
  }
  sent_flushed lit (inr none) = record {
    size = none.2.size;
    light = none.2.light ∙ lit;
    contents = λ k less. none.2.contents k less ∙ simp (ne_eqb p.at k (λ e. absurd (omega (arith, none.1))));
    gains = λ k y less found. inl (none.2.gains k y less found);
  }

  pub stopped_torn : m.lit ≡ true → StoppedAt m p m' → Torn m p.at p.content m'
  stopped_torn lit (inl dark) = absurd (both_ways m.lit dark.0 lit)
  stopped_torn lit (inr torn) = torn

  pub stopped_one : m.lit ≡ true → StoppedAt m p m' → Stopped m (p ∷ []) m'
  stopped_one lit stop =
      let torn = stopped_torn lit stop in
      record { size = torn.size; dark = torn.dark; gains = gains_one torn.gains }

-- One block, and then the others.
flushed_cons : (m f m' : Meaning) (p : Pending) (ps : List Pending) → Flushed m (p ∷ []) f → Flushed f ps m' → Flushed m (p ∷ ps) m'
flushed_cons m f m' p ps first rest = record {
  size = rest.size ∙ first.size;
  light = rest.light;
  contents = λ k less. rest.contents k (rw first.size less) ∙ ap (λ z. overlaid k z ps) (first.contents k less);
  gains = λ k y less found. elim (rest.gains k y (rw first.size less) found) [
    | inl mid ↦ elim (first.gains k y less mid) [
      | inl old ↦ inl old
      | inr one ↦ elim one [ inl here ↦ inr (inl here) | inr never ↦ absurd never ]
    ]
    | inr held ↦ inr (inr held)
  ];
}

module _ {D : Type 0} (means : D → Meaning) where
  pub drained_flushed : (d : D) (ps : List Pending) (e : D) → (means d).lit ≡ true → Drained means d ps e → Flushed (means d) ps (means e)
  drained_flushed d [] e lit same = rw same record { size = refl; light = lit; contents = λ _ _. refl; gains = λ _ _ _ found. inl found }
  drained_flushed d (p ∷ ps) e lit (f, (sent, rest)) =
      let first = sent_flushed (means d) p (means f) lit sent in
      flushed_cons (means d) (means f) (means e) p ps first (drained_flushed f ps e first.light rest)

  pub drained_push : (d : D) (ps : List Pending) (p : Pending) (e f : D) → Drained means d ps e → Sent (means e) p (means f) → Drained means d (ps ++ (p ∷ [])) f
  drained_push d [] p e f same sent = (f, (rw same at sent, refl))
  drained_push d (q ∷ ps) p e f (g, (first, rest)) sent = (g, (first, drained_push g ps p e f rest sent))

  -- The same over a slice of held blocks, whose element at i is p.
  pub drained_next : (d : D) (ps : List Pending) (i : ℕ) (p : Pending) (e f : D) → i < length ps → p ≡ get_or ps i p → Drained means d (take i ps) e → Sent (means e) p (means f) → Drained means d (take (i + 1) ps) f
  drained_next d ps i p e f less is before sent =
      let next : take (i + 1) ps ≡ take i ps ++ (p ∷ []) = take_more ps i p less ∙ ap (λ q. take i ps ++ (q ∷ [])) (sym is) in
      rw next (drained_push d (take i ps) p e f before sent)

  -- The write of the block at i is not done; r is what is answered then.
  cut_at : (d : D) (ps : List Pending) (i : ℕ) (p : Pending) (e f : D) (y : Fault) → i < length ps → p ≡ get_or ps i p → Drained means d (take i ps) e → Send (means e) p (Err y) (means f) → Drain means d ps (Err y) f
  cut_at d ps i p e f Dark less is before stop = (i, (p, (e, (less, is, before, stop))))
  cut_at d ps i p e f NoBlock less is before never = absurd never

  pub drain_cut : (d : D) (ps : List Pending) (i : ℕ) (p : Pending) (e f : D) (r : Result Unit Fault) (y z : Fault) → r ≡ Err y → y ≡ z → i < length ps → p ≡ get_or ps i p → Drained means d (take i ps) e → Send (means e) p (Err z) (means f) → Drain means d ps r f
  drain_cut d ps i p e f r y z answer same less is before stop = rw (answer, same) (cut_at d ps i p e f z less is before stop)

  pub cut_stopped : (d : D) (ps : List Pending) (e : D) → (means d).lit ≡ true → Cut means d ps e → Stopped (means d) ps (means e)
  cut_stopped d ps e lit (i, (p, (f, (less, is, before, stop)))) =
      let flushed = drained_flushed d (take i ps) f lit before in
      let torn = stopped_torn (means f) p (means e) flushed.light stop in
      record {
        size = torn.size ∙ flushed.size;
        dark = torn.dark;
        gains = λ k y small found. elim (torn.gains k y (rw flushed.size small) found) [
          | inl mid ↦ elim (flushed.gains k y small mid) [ inl old ↦ inl old | inr held ↦ inr (held_take k y ps i held) ]
          | inr new ↦ inr (rw new.0 (rw new.1 (held_at ps i p less is)))
        ];
      }
