-- Where references lead in a sound catalogue, and that what a registered path needs is registered.
use Rattle.std.proofs.Common.{◌≡◌, ℕ, ◌<◌, ◌≤◌, true, List, [], ◌∷◌, length, get_or, take, sym, ap, ◌∙◌, inl, inr, arith}
use Rattle.std.specs.Str.{bytes_eq}
use Rattle.std.proofs.lemmas.List.{get_or-take, length-take-le, length-append, length-map}
use Rattle.std.proofs.lemmas.Bool.{or_cases, both_ways, cases_lt, cases_order}
use Rattle.model.specs.Lists.{Chain}
use Rattle.model.specs.Plain.{Bytes, Path, Generation, Profile, Catalogue, no_path}
use Rattle.model.specs.Fits.{has_hash, refers, Registrable, SoundProfile, Sound}
use Rattle.model.specs.Listing.{current_entry, profile_listing, listing}
use Rattle.model.specs.Closure.{Closure, itself, through}
use Rattle.model.proofs.Chains.{any_from, any_place}
use Rattle.model.proofs.Sounds.{same_is, is_same}

-- A registered hash stands in some row.
pub row_of_hash : (h : Bytes) (paths : List Path) → has_hash h paths ≡ true → (k : ℕ) × ((k < length paths) × ((get_or paths k no_path).hash ≡ h))
row_of_hash h paths e =
    let at = any_place (λ p. bytes_eq p.hash h) paths no_path e in (at.0, (at.1.0, same_is _ h at.1.1))

pub hash_of_row : (h : Bytes) (paths : List Path) (k : ℕ) → k < length paths → (get_or paths k no_path).hash ≡ h → has_hash h paths ≡ true
hash_of_row h paths k less e = any_from (λ p. bytes_eq p.hash h) paths no_path k less (is_same (get_or paths k no_path).hash h e)

module _ (n : ℕ) (paths : List Path) (rows : Chain (Registrable n) no_path paths) where
  -- A path's reference leads to an earlier row or to the path itself.
  pub reference_row : (k : ℕ) (r : Bytes) → k < length paths → refers (get_or paths k no_path) r ≡ true → (j : ℕ) × ((j ≤ k) × ((get_or paths j no_path).hash ≡ r))
  reference_row k r less e =
      let p = get_or paths k no_path in
      let at = any_place (λ x. bytes_eq x r) p.refs [] e in
      let ref : get_or p.refs at.0 [] ≡ r = same_is _ r at.1.1 in
      elim (or_cases (has_hash (get_or p.refs at.0 []) (take k paths)) (bytes_eq p.hash (get_or p.refs at.0 [])) ((rows k less).known at.0 at.1.0)) [
        | inl earlier ↦
            let row = row_of_hash (get_or p.refs at.0 []) (take k paths) earlier in
            let below : row.0 < k = omega (arith, row.1.0, length-take-le k paths (omega arith)) in
            (row.0, (omega arith, ap (λ q. q.hash) (sym (get_or-take k paths row.0 no_path below)) ∙ (row.1.1 ∙ ref)))
        | inr self ↦ (k, (omega arith, same_is p.hash _ self ∙ ref))
      ]

  -- Rows of one hash are one row.
  later_differs : (i j : ℕ) → i < j → j < length paths → (get_or paths i no_path).hash ≡ (get_or paths j no_path).hash → ⊥
  later_differs i j less within e =
      let there : has_hash (get_or paths j no_path).hash (take j paths) ≡ true =
      hash_of_row (get_or paths j no_path).hash (take j paths) i (omega (arith, length-take-le j paths (omega arith))) (ap (λ q. q.hash) (get_or-take j paths i no_path less) ∙ e) in
      both_ways (has_hash (get_or paths j no_path).hash (take j paths)) (rows j within).new there

  pub one_row : (i j : ℕ) → i < length paths → j < length paths → (get_or paths i no_path).hash ≡ (get_or paths j no_path).hash → i ≡ j
  one_row i j li lj e =
      elim (cases_order i j) [
        | inl same ↦ same
        | inr other ↦ elim other [ inl l ↦ absurd (later_differs i j l lj e) | inr g ↦ absurd (later_differs j i g li (sym e)) ]
      ]

  -- What a registered path needs is registered.
  pub needs_registered : (h q : Bytes) → has_hash h paths ≡ true → Closure paths h q → has_hash q paths ≡ true
  needs_registered h q there itself = there
  needs_registered h q there (through k less member ref) =
      let row = reference_row k q less ref in hash_of_row q paths row.0 (omega (arith, row.1.0)) row.1.1

-- A listing has at most 61 entries.
current_entry_short : (p k : ℕ) (gens : List Generation) → length (current_entry p k gens) ≤ 1
current_entry_short p k [] = omega arith
current_entry_short p k (g ∷ gs) = omega arith

generations_few : (paths : List Path) (f : Profile) → SoundProfile paths f → length f.generations ≤ 6
generations_few paths f fine =
    elim (cases_lt (length f.generations) 7) [
      | inl l ↦ omega arith
      | inr g ↦ let c = fine.rising 6 (omega arith) in absurd (omega (arith, c.room, length-take-le 6 f.generations (omega arith)))
    ]

pub paths_few : (n : ℕ) (paths : List Path) → Chain (Registrable n) no_path paths → length paths ≤ 40
paths_few n paths rows =
    elim (cases_lt (length paths) 41) [
      | inl l ↦ omega arith
      | inr g ↦ let c = rows 40 (omega arith) in absurd (omega (arith, c.room, length-take-le 40 paths (omega arith)))
    ]

profile_listing_short : (paths : List Path) (p : ℕ) (f : Profile) → SoundProfile paths f → length (profile_listing p f) ≤ 7
profile_listing_short paths p f fine = simp (length-append, length-map) (omega (arith, generations_few paths f fine, current_entry_short p f.current f.generations))

listing_short_by : (n : ℕ) (paths : List Path) (profiles : List Profile) → Sound n (record { paths = paths; profiles = profiles }) → length (listing (record { paths = paths; profiles = profiles })) ≤ 61
listing_short_by n paths [] s = absurd (omega (arith, s.three))
listing_short_by n paths (a ∷ []) s = absurd (omega (arith, s.three))
listing_short_by n paths (a ∷ (b ∷ [])) s = absurd (omega (arith, s.three))
listing_short_by n paths (a ∷ (b ∷ (c ∷ []))) s =
    simp (length-append, length-map) (omega (arith, paths_few n paths s.rows, simp (length-append, length-map) at (profile_listing_short paths 0 a (s.profiles 0 (omega arith))), simp (length-append, length-map) at (profile_listing_short paths 1 b (s.profiles 1 (omega arith))), simp (length-append, length-map) at (profile_listing_short paths 2 c (s.profiles 2 (omega arith)))))
listing_short_by n paths (a ∷ (b ∷ (c ∷ (d ∷ rest)))) s = absurd (omega (arith, s.three))

pub listing_short : (n : ℕ) (cat : Catalogue) → Sound n cat → length (listing cat) ≤ 61
listing_short n cat s = listing_short_by n cat.paths cat.profiles s
