-- A disk with blocks held back in front of it is a disk.
use Rattle.std.proofs.Common.{◌≡◌, ℕ, ◌<◌, Bool, true, false, cond, eqb, ◌⊎◌, List, [], ◌∷◌, length, drop, Err, Result, sym, refl, ap, subst, ◌∙◌, inl, inr, eq-eqb, ne_eqb, eqb-true}
use Rattle.std.proofs.lemmas.Bool.{both_ways}
use Rattle.disk.specs.declared.Fault.{Fault}
use Rattle.disk.specs.declared.Fault.TheVariants.{Dark, NoBlock}
use Rattle.disk.specs.Meaning.{Block, Meaning, Sound, Write, Written, Torn, Passed, Lost, Barrier}
use Rattle.write_behind.specs.declared.held.Pending.{Pending}
use Rattle.write_behind.specs.Behind.{overlaid, Held, Free, behind, Replaced, Added}
use Rattle.write_behind.specs.Order.{Sent, StoppedAt, Send, Drained, Drain, Cut, BehindWrite, BehindBarrier}
use Rattle.write_behind.proofs.Helds.{overlaid_push, held_push, overlaid_here, overlaid_others, held_set}
use Rattle.write_behind.proofs.Drains.{sent_flushed, stopped_one, drained_flushed, cut_stopped}

-- What is held is whole.
held_whole : (k : ℕ) (y : Block) (ps : List Pending) → Held k y ps → length y ≡ 256
held_whole k y [] held = absurd held
held_whole k y (p ∷ ps) (inl here) = sym (ap length here.1) ∙ p.whole
held_whole k y (p ∷ ps) (inr later) = held_whole k y ps later

-- The content of a block is the one below, or is held.
pick : (k : ℕ) (x y : Block) (p : Pending) (ps : List Pending) (t : Bool) → eqb p.at k ≡ t → y ≡ cond t p.content x → (y ≡ x) ⊎ Held k y (p ∷ ps)
pick k x y p ps true hit is = inr (inl (eqb-true p.at k hit, sym is))
pick k x y p ps false miss is = inl is

overlaid_held : (k : ℕ) (x : Block) (ps : List Pending) → (overlaid k x ps ≡ x) ⊎ Held k (overlaid k x ps) ps
overlaid_held k x [] = inl refl
overlaid_held k x (p ∷ ps) = elim (overlaid_held k (cond (eqb p.at k) p.content x) ps) [
  | inl is ↦ pick k x (overlaid k x (p ∷ ps)) p ps (eqb p.at k) refl is
  | inr held ↦ inr (inr held)
]

pub behind_sound : (m : Meaning) (ps : List Pending) → Sound m → Sound (behind m ps)
behind_sound m ps sound = record {
  few = sound.few;
  whole = λ k less. elim (overlaid_held k (m.present k) ps) [
    | inl below ↦ ap length below ∙ sound.whole k less
    | inr held ↦ held_whole k (overlaid k (m.present k) ps) ps held
  ];
  whole_found = λ k y less found. elim found [ inl below ↦ sound.whole_found k y less below | inr held ↦ held_whole k y ps held ];
  found = λ lit k less. elim (overlaid_held k (m.present k) ps) [ inl below ↦ inl (rw below (sound.found lit k less)) | inr held ↦ inr held ];
  some = λ k less. let one = sound.some k less in (one.0, inl one.1);
}

-- A write that is held back, on a lit disk that has the block.
module _ (m : Meaning) (ps qs : List Pending) (b : ℕ) (x : Block) (lit : m.lit ≡ true) (within : b < m.blocks) where
  pub written_replaced : Replaced b x ps qs → Written (behind m ps) b x (behind m qs)
  written_replaced (i, (p, (last, holds, is))) = rw is record {
    was = lit;
    within = within;
    size = refl;
    light = lit;
    here = overlaid_here b (m.present b) x ps i p last holds;
    others = λ k _ other. overlaid_others b k (m.present k) x ps i p last holds other;
    gains = λ k y less found. elim found [
      | inl below ↦ inl (inl below)
      | inr held ↦ elim (held_set k y ps i p held) [ inl old ↦ inl (inr old) | inr new ↦ inr (sym new.0 ∙ holds.0, sym new.1 ∙ holds.1) ]
    ];
  }

  pub written_added : Added b x ps qs → Written (behind m ps) b x (behind m qs)
  written_added (p, (holds, is)) = rw is record {
    was = lit;
    within = within;
    size = refl;
    light = lit;
    here = overlaid_push b (m.present b) ps p ∙ simp (eq-eqb p.at b holds.0) holds.1;
    others = λ k _ other. overlaid_push k (m.present k) ps p ∙ simp (ne_eqb p.at k (λ e. other (sym e ∙ holds.0)));
    gains = λ k y less found. elim found [
      | inl below ↦ inl (inl below)
      | inr held ↦ elim (held_push k y ps p held) [ inl old ↦ inl (inr old) | inr new ↦ inr (sym new.0 ∙ holds.0, sym new.1 ∙ holds.1) ]
    ];
  }

-- The longest-held block p is written below, and then x is held for block b.
module _ (m m' : Meaning) (ps : List Pending) (p : Pending) (rest : List Pending) (b : ℕ) (x : Block) (lit : m.lit ≡ true) (within : b < m.blocks) (is : ps ≡ p ∷ rest) where
  pub written_shifted : (qs : List Pending) → Sent m p m' → Added b x rest qs → Written (behind m ps) b x (behind m' qs)
  written_shifted qs sent added =
      let f = sent_flushed m p m' lit sent in
      let w = written_added m' rest qs b x f.light (rw f.size within) added in
      rw is record {
        was = lit;
        within = within;
        size = f.size;
        light = w.light;
        here = w.here;
        others = λ k less other. w.others k (rw f.size less) other ∙ ap (λ z. overlaid k z rest) (f.contents k less);
        gains = λ k y less found. elim (w.gains k y (rw f.size less) found) [
          | inl old ↦ elim old [
            | inl below ↦ elim (f.gains k y less below) [
              | inl older ↦ inl (inl older)
              | inr one ↦ elim one [ inl here ↦ inl (inr (inl here)) | inr never ↦ absurd never ]
            ]
            | inr held ↦ inl (inr (inr held))
          ]
          | inr new ↦ inr new
        ];
      }

  pub torn_shifted : (qs : List Pending) → qs ≡ ps → StoppedAt m p m' → Torn (behind m ps) b x (behind m' qs)
  torn_shifted qs same stop =
      let s = stopped_one m p m' lit stop in
      rw same (rw is record {
        was = lit;
        within = within;
        size = s.size;
        dark = s.dark;
        gains = λ k y less found. elim found [
          | inl below ↦ elim (s.gains k y less below) [
            | inl old ↦ inl (inl old)
            | inr one ↦ elim one [ inl here ↦ inl (inr (inl here)) | inr never ↦ absurd never ]
          ]
          | inr held ↦ inl (inr held)
        ];
      })

-- The longest-held block p is on its way below, and that write is not done; r is what the layer answers then.
module _ {D : Type 0} (means : D → Meaning) (d e : D) (ps qs : List Pending) (p : Pending) (b : ℕ) (x : Block) (lit : (means d).lit ≡ true) (within : b < (means d).blocks)
    (is : ps ≡ p ∷ drop 1 ps) (free : Free b ps) (full : length ps ≡ 16) (same : qs ≡ ps) where
  abbrev Unwritten : Result Unit Fault → Type 0
  Unwritten r = Write (behind (means d) ps) b x r (behind (means e) qs) × BehindWrite means d ps b x r e qs × ((means e).blocks ≡ (means d).blocks)

  unwritten : (y : Fault) → Send (means d) p (Err y) (means e) → Unwritten (Err y)
  unwritten Dark stop =
      let torn = torn_shifted (means d) (means e) ps p (drop 1 ps) b x lit within is qs same stop in
      (inr torn, (same, inr (p, (free, is, full, stop))), torn.size)
  unwritten NoBlock never = absurd never

  pub send_undone : (r : Result Unit Fault) (y z : Fault) → r ≡ Err y → y ≡ z → Send (means d) p (Err z) (means e) → Unwritten r
  send_undone r y z answer one stop = rw (answer, one) (unwritten z stop)

-- A barrier: all that is held comes below, and then a barrier is passed there.
module _ {D : Type 0} (means : D → Meaning) (d e : D) (ps : List Pending) (lit : (means d).lit ≡ true) where
  pub barrier_passed : (f : D) (qs : List Pending) → qs ≡ [] → Drained means d ps f → Passed (means f) (means e) → Passed (behind (means d) ps) (behind (means e) qs)
  barrier_passed f qs none drained passed =
      let flushed = drained_flushed means d ps f lit drained in
      rw none record {
        was = lit;
        size = passed.size ∙ flushed.size;
        light = passed.light;
        contents = λ k less. passed.contents k (rw flushed.size less) ∙ flushed.contents k less;
        settled = record {
          alone = λ k y less found. elim found [ inl below ↦ passed.settled.alone k y less below | inr never ↦ absurd never ];
          there = λ k less. inl (passed.settled.there k less);
        };
        gains = λ k y less found. elim found [
          | inl below ↦ flushed.gains k y less (passed.gains k y (rw flushed.size less) below)
          | inr never ↦ absurd never
        ];
      }

  lost : (means e).blocks ≡ (means d).blocks → (means e).lit ≡ false → ((k : ℕ) (y : Block) → k < (means d).blocks → (means e).may k y → (means d).may k y ⊎ Held k y ps) → Lost (behind (means d) ps) (behind (means e) ps)
  lost size dark gains = record {
    was = lit;
    size = size;
    dark = dark;
    gains = λ k y less found. elim found [ inl below ↦ gains k y less below | inr held ↦ inr held ];
  }

  lost_in_drain : Cut means d ps e → Lost (behind (means d) ps) (behind (means e) ps)
  lost_in_drain cut = let s = cut_stopped means d ps e lit cut in lost s.size s.dark s.gains

  lost_in_barrier : (f : D) → Drained means d ps f → Barrier (means f) (Err Dark) (means e) → Lost (behind (means d) ps) (behind (means e) ps)
  lost_in_barrier f drained barrier =
      let flushed = drained_flushed means d ps f lit drained in
      elim barrier [
        | inl dark ↦ absurd (both_ways (means f).lit dark.0 flushed.light)
        | inr l ↦ lost (l.size ∙ flushed.size) l.dark (λ k y less found. flushed.gains k y less (l.gains k y (rw flushed.size less) found))
      ]

  -- The blocks are not all brought below, or the barrier there is not done; r is what the layer answers then.
  abbrev Undone : Result Unit Fault → Type 0
  Undone r = Barrier (behind (means d) ps) r (behind (means e) ps) × BehindBarrier means d ps r e ps × ((means e).blocks ≡ (means d).blocks)

  undrained : (y : Fault) → Drain means d ps (Err y) e → Undone (Err y)
  undrained Dark cut = let l = lost_in_drain cut in (inr l, (refl, inr (inl cut)), l.size)
  undrained NoBlock never = absurd never

  pub drain_undone : (r : Result Unit Fault) (y z : Fault) (held : List Pending) → r ≡ Err y → y ≡ z → held ≡ ps → Drain means d held (Err z) e → Undone r
  drain_undone r y z held answer same all cut = rw (answer, same) (undrained z (subst (λ hs. Drain means d hs (Err z) e) all cut))

  unpassed : (f : D) (y : Fault) → Drained means d ps f → Barrier (means f) (Err y) (means e) → Undone (Err y)
  unpassed f Dark drained barrier =
      let l = lost_in_barrier f drained barrier in
      (inr l, (refl, inr (inr (f, (drained, barrier)))), l.size)
  unpassed f NoBlock drained never = absurd never

  pub barrier_undone : (f : D) (r : Result Unit Fault) (y z : Fault) → r ≡ Err y → y ≡ z → Drained means d ps f → Barrier (means f) (Err z) (means e) → Undone r
  barrier_undone f r y z answer same drained barrier = rw (answer, same) (unpassed f z drained barrier)
