-- How the blocks of a card back a catalogue, from one write to the next. No disk is in it: only sets of contents.
use Rattle.std.proofs.Common.{◌≡◌, ℕ, ◌+◌, ◌-◌, ◌^◌, ◌<◌, ◌≤◌, ◌≢◌, ◌⊎◌, List, [], ◌∷◌, ◌++◌, length, get_or, sym, refl, ap, ◌∙◌, subst, inl, inr, arith}
use Rattle.std.proofs.lemmas.List.{length_push, get_or_append_left, get_or_push}
use Rattle.std.proofs.lemmas.Bool.{cases_lt, cond-true, cond-false, eq-eqb, ne_eqb}
use Rattle.model.specs.Plain.{Entry}
use Rattle.model.specs.Fits.{Fits, after, then, Sound}
use Rattle.model.specs.Listing.{listing}
use Rattle.model.specs.Standing.{Standing, next_number, full, moved, ready, entered}
use Rattle.model.proofs.Sounds.{makes_sound}
use Rattle.model.proofs.Listings.{listing_makes}
use Rattle.model.proofs.Rows.{listing_short}
use Rattle.card.specs.Label.{Half, InRange, Labels}
use Rattle.journal.specs.Blocks.{no_entry}
use Rattle.journal.specs.Appends.{Listed}
use Rattle.journal.specs.Backed.{Sets, other, IsEntry, Old, next_half, Backed}

-- One block has a content of its own, and the others no more than before.
abbrev pub Replaced : ℕ → Sets → ℕ → List ℕ → Sets → Type 0
Replaced n may b x may' = (k : ℕ) (y : List ℕ) → k < n → may' k y → (k ≡ b → y ≡ x) × (k ≢ b → may k y)

-- No set is larger.
abbrev pub Smaller : ℕ → Sets → Sets → Type 0
Smaller n may may' = (k : ℕ) (y : List ℕ) → k < n → may' k y → may k y

-- Where the halves lie.
pub start_low : (h : Half) → InRange h → (1 ≤ h.start) × (h.start ≤ 65)
start_low h range = elim range.start [ inl one ↦ (omega arith, omega arith) | inr two ↦ (omega arith, omega arith) ]

pub other_low : (h : Half) → InRange h → (1 ≤ other h.start) × (other h.start ≤ 65)
other_low h range = elim range.start [ inl one ↦ (omega arith, omega arith) | inr two ↦ (omega arith, omega arith) ]

halves_apart : (h : Half) (i j : ℕ) → InRange h → i < 64 → j < 64 → h.start + i ≢ other h.start + j
halves_apart h i j range li lj e = elim range.start [ inl one ↦ omega arith | inr two ↦ omega arith ]

pub other_other : (h : Half) → InRange h → other (other h.start) ≡ h.start
other_other h range = elim range.start [ inl one ↦ omega arith | inr two ↦ omega arith ]

-- The same entries back a standing, where its blocks may be found so.
backed_still : (n : ℕ) (may may' : Sets) (h : Half) (s : Standing) (b : Backed n may h s) → ((y : List ℕ) → may' 0 y → Labels n y h)
    → ((i : ℕ) (y : List ℕ) → i < s.place.used → may' (h.start + i) y → may (h.start + i) y)
    → ((i : ℕ) (y : List ℕ) → s.place.used ≤ i → i < 64 → may' (h.start + i) y → Old (next_number s.place) y)
    → ((i : ℕ) (y : List ℕ) → i < 64 → may' (other h.start + i) y
    → Old (next_number s.place) y ⊎ ((s.place.used ≡ 64) × (i < length (listing s.catalogue)) × IsEntry y (next_half h s) i (get_or (listing s.catalogue) i no_entry)))
    → Backed n may' h s
backed_still n may may' h s b label written free rest = record {
  size = b.size;
  range = b.range;
  first = b.first;
  used = b.used;
  enough = b.enough;
  entries = b.entries;
  long = b.long;
  makes = b.makes;
  label = label;
  written = λ i y less m. b.written i y less (written i y less m);
  free = free;
  rest = rest;
}

-- Fewer contents back the same standing.
pub backed_smaller : (n : ℕ) (may may' : Sets) (h : Half) (s : Standing) → Smaller n may may' → Backed n may h s → Backed n may' h s
backed_smaller n may may' h s sub b =
    let low = start_low h b.range in
    let low' = other_low h b.range in
    backed_still n may may' h s b
    (λ y m. b.label y (sub 0 y (omega (arith, b.size.0)) m))
    (λ i y less m. sub (h.start + i) y (omega (arith, b.size.0, b.used)) m)
    (λ i y more less m. b.free i y more less (sub (h.start + i) y (omega (arith, b.size.0)) m))
    (λ i y less m. b.rest i y less (sub (other h.start + i) y (omega (arith, b.size.0)) m))

-- The standing that an entry leaves in a half that is not full.
pub entered_is : (s : Standing) (e : Entry) → s.place.used < 64 → entered s e ≡ record { catalogue = after s.catalogue e; place = record { first = s.place.first; used = s.place.used + 1 } }
entered_is s e more =
    let same : ready s ≡ s = cond-false (full s.place) (moved s) s (ne_eqb s.place.used 64 (λ e. omega arith)) in
    ap (λ t. record { catalogue = after s.catalogue e; place = record { first = t.place.first; used = t.place.used + 1 } }) same

pub entered_moved : (s : Standing) (e : Entry) → s.place.used ≡ 64 → length (listing s.catalogue) < 64 → entered s e ≡ entered (moved s) e
entered_moved s e all short =
    let same : ready s ≡ moved s = cond-true (full s.place) (moved s) s (eq-eqb s.place.used 64 all) in
    ap (λ t. record { catalogue = after s.catalogue e; place = record { first = t.place.first; used = t.place.used + 1 } }) same ∙ sym (entered_is (moved s) e short)

-- The next entry stands in its place.
pub backed_entered : (n : ℕ) (may may' : Sets) (h : Half) (s : Standing) (e : Entry) (x : List ℕ) → Backed n may h s → s.place.used < 64 → Fits n s.catalogue e
    → IsEntry x h s.place.used e → Replaced n may (h.start + s.place.used) x may' → Backed n may' h (entered s e)
backed_entered n may may' h s e x b more fits is replaced =
    let low = start_low h b.range in
    let low' = other_low h b.range in
    let used = s.place.used in
    let at : ℕ = h.start + used in
    let long' : length (b.entries ++ (e ∷ [])) ≡ used + 1 = length_push b.entries e ∙ ap (λ k. k + 1) b.long in
    subst (λ (t : Standing). Backed n may' h t) (sym (entered_is s e more)) (record {
      size = b.size;
      range = b.range;
      first = b.first;
      used = omega arith;
      enough = omega (arith, b.enough);
      entries = b.entries ++ (e ∷ []);
      long = long';
      makes = then e b.makes fits;
      label = λ y m. b.label y ((replaced 0 y (omega (arith, b.size.0)) m).1 (λ q. omega arith));
      written = λ i y less m. elim (cases_lt i used) [
        | inl l ↦ subst (λ (z : Entry). IsEntry y h i z) (sym (get_or_append_left b.entries (e ∷ []) no_entry i (omega (arith, b.long))))
            (b.written i y l ((replaced (h.start + i) y (omega (arith, b.size.0)) m).1 (λ q. omega arith)))
        | inr g ↦
            let here : i ≡ used = omega arith in
            let content : y ≡ x = (replaced (h.start + i) y (omega (arith, b.size.0)) m).0 (ap (λ k. h.start + k) here) in
            subst (λ (z : Entry). IsEntry y h i z) (sym (get_or_push b.entries e no_entry i (b.long ∙ sym here)))
            (subst (λ (z : List ℕ). IsEntry z h i e) (sym content) (subst (λ (k : ℕ). IsEntry x h k e) (sym here) is))
      ];
      free = λ i y past less m. omega (arith, b.free i y (omega arith) less ((replaced (h.start + i) y (omega (arith, b.size.0)) m).1 (λ q. omega arith)));
      rest = λ i y less m. elim (b.rest i y less ((replaced (other h.start + i) y (omega (arith, b.size.0)) m).1 (λ q. halves_apart h used i b.range more less (sym q)))) [
        | inl old ↦ inl (omega arith)
        | inr checkpoint ↦ absurd (omega (arith, checkpoint.0))
      ];
    })

-- An entry of the checkpoint may stand in its place while the half is full.
pub backed_listing : (n : ℕ) (may may' : Sets) (h : Half) (s : Standing) (i : ℕ) (x : List ℕ) → Backed n may h s → s.place.used ≡ 64 → i < length (listing s.catalogue) → i < 64
    → IsEntry x (next_half h s) i (get_or (listing s.catalogue) i no_entry)
    → ((k : ℕ) (y : List ℕ) → k < n → may' k y → may k y ⊎ ((k ≡ other h.start + i) × (y ≡ x))) → Backed n may' h s
backed_listing n may may' h s i x b all within below is gains =
    let low = start_low h b.range in
    let low' = other_low h b.range in
    let apart : (k : ℕ) (y : List ℕ) → k < n → k ≢ other h.start + i → may' k y → may k y = λ k y less ne m. elim (gains k y less m) [ inl old ↦ old | inr new ↦ absurd (ne new.0) ] in
    backed_still n may may' h s b
    (λ y m. b.label y (apart 0 y (omega (arith, b.size.0)) (λ q. omega arith) m))
    (λ j y less m. apart (h.start + j) y (omega (arith, b.size.0)) (halves_apart h j i b.range (omega arith) below) m)
    (λ j y past less m. absurd (omega arith))
    (λ j y less m. elim (gains (other h.start + j) y (omega (arith, b.size.0)) m) [
      | inl old ↦ b.rest j y less old
      | inr new ↦
          let same : i ≡ j = omega (arith, new.0) in
          inr (
            all,
            subst (λ (k : ℕ). k < length (listing s.catalogue)) same within,
            subst (λ (z : List ℕ). IsEntry z (next_half h s) j (get_or (listing s.catalogue) j no_entry)) (sym new.1)
                (subst (λ (k : ℕ). IsEntry x (next_half h s) k (get_or (listing s.catalogue) k no_entry)) same is),
          )
    ])

-- One more of the checkpoint's entries stands in its place.
pub listed_more : (n : ℕ) (may may' : Sets) (h : Half) (s : Standing) (m : ℕ) (x : List ℕ) → 130 ≤ n → InRange h → m < 64 → Listed may h s m
    → IsEntry x (next_half h s) m (get_or (listing s.catalogue) m no_entry) → Replaced n may (other h.start + m) x may' → Listed may' h s (m + 1)
listed_more n may may' h s m x size range below listed is replaced i y less may-i =
    let low' = other_low h range in
    let change = replaced (other h.start + i) y (omega arith) may-i in
    elim (cases_lt i m) [
      | inl l ↦ listed i y l (change.1 (λ q. omega arith))
      | inr g ↦
          let here : m ≡ i = omega arith in
          subst (λ (z : List ℕ). IsEntry z (next_half h s) i (get_or (listing s.catalogue) i no_entry)) (sym (change.0 (ap (λ k. other h.start + k) (sym here))))
          (subst (λ (k : ℕ). IsEntry x (next_half h s) k (get_or (listing s.catalogue) k no_entry)) here is)
    ]

-- The label names the other half, which holds the whole checkpoint: the same catalogue, numbered on.
pub backed_moved : (n : ℕ) (may may' : Sets) (h : Half) (s : Standing) (x : List ℕ) → Backed n may h s → s.place.used ≡ 64 → next_number s.place ≤ 2 ^ 62 - 128
    → Listed may h s (length (listing s.catalogue)) → Labels n x (next_half h s) → Replaced n may 0 x may' → Backed n may' (next_half h s) (moved s)
backed_moved n may may' h s x b all numbered listed label replaced =
    let low = start_low h b.range in
    let low' = other_low h b.range in
    let sound : Sound n s.catalogue = makes_sound b.makes in
    let short : length (listing s.catalogue) ≤ 61 = listing_short n s.catalogue sound in
    let back : other (other h.start) ≡ h.start = other_other h b.range in
    record {
      size = b.size;
      range = label.range;
      first = ap (λ k. k + 64) b.first;
      used = omega arith;
      enough = omega arith;
      entries = listing s.catalogue;
      long = refl;
      makes = listing_makes n s.catalogue sound;
      label = λ y m. subst (λ (z : List ℕ). Labels n z (next_half h s)) (sym ((replaced 0 y (omega (arith, b.size.0)) m).0 refl)) label;
      written = λ i y less m. listed i y less ((replaced (other h.start + i) y (omega (arith, b.size.0)) m).1 (λ q. omega arith));
      free = λ i y past less m. elim (b.rest i y less ((replaced (other h.start + i) y (omega (arith, b.size.0)) m).1 (λ q. omega arith))) [
        | inl old ↦ omega arith
        | inr checkpoint ↦ absurd (omega (arith, checkpoint.1))
      ];
      rest = λ i y less m.
          let there : may (h.start + i) y = (replaced (h.start + i) y (omega (arith, b.size.0)) (subst (λ (k : ℕ). may' (k + i) y) back m)).1 (λ q. omega arith) in
          inl (omega (arith, (b.written i y (omega arith) there).marked.number, b.first));
    }
