-- What an entry leaves for an open to find.
use Rattle.std.proofs.Common.{◌≡◌, ℕ, ◌+◌, ◌-◌, ◌^◌, ◌<◌, ◌≤◌, true, false, not, List, [], ◌∷◌, ◌++◌, length, get_or, sym, refl, ap, ◌∙◌, subst, inl, inr, arith}
use Rattle.std.specs.List.{AllByRecursion}
use Rattle.std.specs.Str.{bytes_eq}
use Rattle.std.proofs.ByRecursion.{All-get_or}
use Rattle.std.proofs.lemmas.List.{get_or_append_left, get_or_push, length_push}
use Rattle.std.proofs.lemmas.Bool.{cases_Bool, cases_lt, both_ways, cond-true, cond-false, eqb-true, eqb-false}
use Rattle.model.specs.Plain.{Bytes, Path, Catalogue, Entry, register, commit, switch, forget, remove, no_path}
use Rattle.model.specs.Fits.{has_hash, Fits, after, Sound}
use Rattle.model.specs.Listing.{listing}
use Rattle.model.proofs.Chains.{kept_each}
use Rattle.model.proofs.Sounds.{sound_after, same_is, is_same}
use Rattle.model.proofs.Rows.{listing_short, hash_of_row}
use Rattle.model.specs.Standing.{Standing, next_number, full, moved, ready, entered}
use Rattle.ledger.specs.State.{Content}
use Rattle.ledger.specs.Rules.{content_with, spares}
use Rattle.ledger.specs.Sound.{AsSealed, SoundStanding}

-- Contents of rows whose hashes are other ones.
abbrev pub Contents : (Bytes → Content) → List Path → Type 0
Contents sealed ps = (k : ℕ) → k < length ps → AsSealed sealed (get_or ps k no_path)

pub contents_with : (sealed : Bytes → Content) (ps : List Path) (h : Bytes) (c : Content) → has_hash h ps ≡ false → Contents sealed ps → Contents (content_with sealed h c) ps
contents_with sealed ps h c new contents k less =
    let p = get_or ps k no_path in
    let differs : bytes_eq h p.hash ≡ false = elim (cases_Bool (bytes_eq h p.hash)) [
      | inl is ↦ absurd (both_ways (has_hash h ps) new (hash_of_row h ps k less (sym (same_is h p.hash is))))
      | inr f ↦ f
    ] in
    let same : content_with sealed h c p.hash ≡ sealed p.hash = cond-false (bytes_eq h p.hash) c (sealed p.hash) differs in
    (ap (λ x. x.refs) same ∙ (contents k less).0, ap (λ x. length x.bytes) same ∙ (contents k less).1)

pub contents_registered : (sealed : Bytes → Content) (ps : List Path) (p : Path) (c : Content) → has_hash p.hash ps ≡ false → c.refs ≡ p.refs → length c.bytes ≡ p.size
    → Contents sealed ps → Contents (content_with sealed p.hash c) (ps ++ (p ∷ []))
contents_registered sealed ps p c new refs size contents k less =
    let long : length (ps ++ (p ∷ [])) ≡ length ps + 1 = length_push ps p in
    elim (cases_lt k (length ps)) [
      | inl l ↦ let is : get_or (ps ++ (p ∷ [])) k no_path ≡ get_or ps k no_path = get_or_append_left ps (p ∷ []) no_path k l in
          subst (λ (x : Path). AsSealed (content_with sealed p.hash c) x) (sym is) (contents_with sealed ps p.hash c new contents k l)
      | inr g ↦ let is : get_or (ps ++ (p ∷ [])) k no_path ≡ p = get_or_push ps p no_path k (omega arith) in
          let same : content_with sealed p.hash c p.hash ≡ c = cond-true (bytes_eq p.hash p.hash) c (sealed p.hash) (is_same p.hash p.hash refl) in
          subst (λ (x : Path). AsSealed (content_with sealed p.hash c) x) (sym is) (ap (λ x. x.refs) same ∙ refs, ap (λ x. length x.bytes) same ∙ size)
    ]

-- An entry that registers nothing leaves the contents as they are.
abbrev pub RegistersNone : Entry → Type 0
RegistersNone (register p) = ⊥
RegistersNone (commit p k h) = Unit {0}
RegistersNone (switch p k) = Unit {0}
RegistersNone (forget p k) = Unit {0}
RegistersNone (remove h) = Unit {0}

pub contents_after : (sealed : Bytes → Content) (cat : Catalogue) (e : Entry) → RegistersNone e → Contents sealed cat.paths → Contents sealed (after cat e).paths
contents_after sealed cat (register p) none contents = absurd none
contents_after sealed cat (commit p k h) none contents = contents
contents_after sealed cat (switch p k) none contents = contents
contents_after sealed cat (forget p k) none contents = contents
contents_after sealed cat (remove h) none contents = kept_each (AsSealed sealed) no_path (λ p. not (bytes_eq p.hash h)) cat.paths contents

module _ (n : ℕ) (s : Standing) where
  pub standing_with : (sealed sealed' : Bytes → Content) → Contents sealed' s.catalogue.paths → SoundStanding n sealed s → SoundStanding n sealed' s
  standing_with sealed sealed' contents fine = record { catalogue = fine.catalogue; contents = contents; first = fine.first; used = fine.used; numbers = fine.numbers }

  -- The same catalogue in the other half.
  pub standing_moved : (sealed : Bytes → Content) → next_number s.place ≤ 2 ^ 62 - 128 → full s.place ≡ true → SoundStanding n sealed s → SoundStanding n sealed (moved s)
  standing_moved sealed numbered is-full fine =
      let short : length (listing s.catalogue) ≤ 61 = listing_short n s.catalogue fine.catalogue in
      let all : s.place.used ≡ 64 = eqb-true s.place.used 64 is-full in
      record { catalogue = fine.catalogue; contents = fine.contents; first = omega (arith, fine.first); used = omega arith; numbers = omega arith }

  pub standing_entered : (sealed : Bytes → Content) (e : Entry) → next_number s.place ≤ 2 ^ 62 - 128 → Fits n s.catalogue e → Contents sealed (after s.catalogue e).paths
      → Sound n s.catalogue → 1 ≤ s.place.first → s.place.used ≤ 64 → SoundStanding n sealed (entered s e)
  standing_entered sealed e numbered fits contents sound first used =
      elim (cases_Bool (full s.place)) [
        | inl is-full ↦
            let at : ready s ≡ moved s = cond-true (full s.place) (moved s) s is-full in
            let short : length (listing s.catalogue) ≤ 61 = listing_short n s.catalogue sound in
            let all : s.place.used ≡ 64 = eqb-true s.place.used 64 is-full in
            let a : (ready s).place.first ≡ s.place.first + 64 = ap (λ x. x.place.first) at in
            let b : (ready s).place.used ≡ length (listing s.catalogue) = ap (λ x. x.place.used) at in
            record { catalogue = sound_after n s.catalogue e sound fits; contents = contents; first = omega arith; used = omega arith; numbers = omega arith }
        | inr open-half ↦
            let at : ready s ≡ s = cond-false (full s.place) (moved s) s open-half in
            let left : s.place.used ≡ 64 → ⊥ = eqb-false s.place.used 64 open-half in
            let a : (ready s).place.first ≡ s.place.first = ap (λ x. x.place.first) at in
            let b : (ready s).place.used ≡ s.place.used = ap (λ x. x.place.used) at in
            record { catalogue = sound_after n s.catalogue e sound fits; contents = contents; first = omega arith; used = omega arith; numbers = omega arith }
      ]

  -- All that a cut may leave beside the standing before.
  pub spares_sound : (sealed : Bytes → Content) (e : Entry) → next_number s.place ≤ 2 ^ 62 - 128 → SoundStanding n sealed s → SoundStanding n sealed (entered s e)
      → (k : ℕ) (d : Standing) → k < length (spares s e) → SoundStanding n sealed (get_or (spares s e) k d)
  spares_sound sealed e numbered before later k d less =
      let fine : Standing → Type 0 = SoundStanding n sealed in
      All-get_or fine (spares s e) k d less (elim (cases_Bool (full s.place)) [
        | inl is-full ↦ subst (λ (l : List Standing). AllByRecursion (SoundStanding n sealed) l) (sym (cond-true (full s.place) (moved s ∷ (entered s e ∷ [])) (entered s e ∷ []) is-full))
            (standing_moved sealed numbered is-full before, (later, tt))
        | inr open-half ↦ subst (λ (l : List Standing). AllByRecursion (SoundStanding n sealed) l) (sym (cond-false (full s.place) (moved s ∷ (entered s e ∷ [])) (entered s e ∷ []) open-half)) (later, tt)
      ])
