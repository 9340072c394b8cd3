-- The places of a listing, part by part.
use Rattle.std.proofs.Common.{◌≡◌, ℕ, zero, suc, ◌+◌, ◌-◌, ◌<◌, ◌≤◌, List, [], ◌∷◌, ◌++◌, map, length, get_or, drop, vec_items, Some, None, sym, refl, ap, ◌∙◌, subst, arith}
use mathlib.Core.Logic.{∥∥₁_elim}
use denote.Struct.Props.{props}
use Rattle.std.specs.List.{fold, slice_get, sum}
use Rattle.std.proofs.lemmas.List.{drop_all, drop_more, get_or-map, length-append, length-map}
use Rattle.std.proofs.lemmas.Option.{slice_get-get_or}
use Rattle.model.specs.Fits.{Sound}
use Rattle.model.proofs.Rows.{listing_short}
use Rattle.model.specs.Plain as plain
use Rattle.model.specs.Listing.{current_entry, listing, profile_listing, profiles_listing}
use Rattle.records.specs.declared.records.Generation.{Generation}
use Rattle.catalogue.specs.declared.profile.Profile.{Profile}
use Rattle.records.specs.declared.records.PathRecord.{PathRecord}
use Rattle.catalogue.specs.View.{profile_from, profile_of}
use Rattle.records.specs.View.{generation_of, path_of}

pub nth_left : {X : Type 0} (xs ys : List X) (i : ℕ) → i < length xs → slice_get (xs ++ ys) i ≡ slice_get xs i
nth_left [] ys i less = absurd (omega arith)
nth_left (x ∷ xs) ys zero less = refl
nth_left (x ∷ xs) ys (suc i) less = nth_left xs ys i (omega arith)

pub nth_right : {X : Type 0} (xs ys : List X) (i : ℕ) → length xs ≤ i → slice_get (xs ++ ys) i ≡ slice_get ys (i - length xs)
nth_right [] ys i past = ap (slice_get ys) (omega arith)
nth_right (x ∷ xs) ys zero past = absurd (omega arith)
nth_right (x ∷ xs) ys (suc i) past = nth_right xs ys i (omega arith) ∙ ap (slice_get ys) (omega arith)

pub nth_mapped : {X Y : Type 0} (f : X → Y) (xs : List X) (i : ℕ) (x : X) → i < length xs → x ≡ get_or xs i x → slice_get (map f xs) i ≡ Some (f x)
nth_mapped f xs i x less is =
    let inside : i < length (map f xs) = rw (length-map xs f) less in
    slice_get-get_or (map f xs) i (f x) inside ∙ ap Some (get_or-map f xs i x (f x) less ∙ ap f (sym is))

-- The entries of one profile.
abbrev commits : ℕ → List Generation → List plain.Entry
commits p gens = map (λ g. plain.commit p g.number g.path) (map generation_of gens)

commits_long : (p : ℕ) (gens : List Generation) → length (commits p gens) ≡ length gens
commits_long p gens = length-map (map generation_of gens) (λ g. plain.commit p g.number g.path) ∙ length-map gens generation_of

pub none_long : (gens : List Generation) (k p : ℕ) → length gens ≡ 0 → length (profile_listing p (profile_from (map generation_of gens) k)) ≡ 0
none_long [] k p e = refl
none_long (g ∷ gens) k p e = absurd (omega arith)

pub some_long : (gens : List Generation) (k p : ℕ) → (length gens ≡ 0 → ⊥) → length (profile_listing p (profile_from (map generation_of gens) k)) ≡ length gens + 1
some_long [] k p ne = absurd (ne refl)
some_long (g ∷ gens) k p ne = omega (arith, length-append (commits p (g ∷ gens)) (plain.switch p k ∷ []), commits_long p (g ∷ gens))

pub commit_at : (gens : List Generation) (k p i : ℕ) (g : Generation) → i < length gens → g ≡ get_or gens i g
    → Some (plain.commit p g.number g.hash.bytes) ≡ slice_get (profile_listing p (profile_from (map generation_of gens) k)) i
commit_at gens k p i g less is =
    let inside : i < length (map generation_of gens) = rw (length-map gens generation_of) less in
    let room : i < length (commits p gens) = rw (commits_long p gens) less in
    let at : generation_of g ≡ get_or (map generation_of gens) i (generation_of g) = sym (get_or-map generation_of gens i g (generation_of g) less ∙ ap generation_of (sym is)) in
    sym (nth_left (commits p gens) (current_entry p k (map generation_of gens)) i room
    ∙ nth_mapped (λ h. plain.commit p h.number h.path) (map generation_of gens) i (generation_of g) inside at)

pub switch_at : (gens : List Generation) (k p i : ℕ) → length gens ≤ i → i < length (profile_listing p (profile_from (map generation_of gens) k))
    → Some (plain.switch p k) ≡ slice_get (profile_listing p (profile_from (map generation_of gens) k)) i
switch_at [] k p i past less = absurd (omega (arith, none_long [] k p refl))
switch_at (g ∷ gens) k p i past less =
    let long = commits_long p (g ∷ gens) in
    let all = some_long (g ∷ gens) k p (λ e. omega arith) in
    let last : i - length (commits p (g ∷ gens)) ≡ 0 = omega arith in
    sym (nth_right (commits p (g ∷ gens)) (plain.switch p k ∷ []) i (omega arith) ∙ ap (slice_get (plain.switch p k ∷ [])) last)

-- The entries of the profiles from one on.
module _ (fs : List Profile) (p : ℕ) (f : Profile) (less : p < length fs) (is : f ≡ get_or fs p f) where
  unrolled : profiles_listing p (map profile_of (drop p fs)) ≡ profile_listing p (profile_of f) ++ profiles_listing (p + 1) (map profile_of (drop (p + 1) fs))
  unrolled =
      ap (λ gs. profiles_listing p (map profile_of gs)) (drop_more fs p f less)
      ∙ ap (λ g. profile_listing p (profile_of g) ++ profiles_listing (p + 1) (map profile_of (drop (p + 1) fs))) (sym is)

  pub here_at : (i : ℕ) → i < length (profile_listing p (profile_of f)) → slice_get (profiles_listing p (map profile_of (drop p fs))) i ≡ slice_get (profile_listing p (profile_of f)) i
  here_at i inside =
      ap (λ es. slice_get es i) unrolled ∙ nth_left (profile_listing p (profile_of f)) (profiles_listing (p + 1) (map profile_of (drop (p + 1) fs))) i inside

  pub past_at : (i n : ℕ) → length (profile_listing p (profile_of f)) ≡ n → n ≤ i
      → slice_get (profiles_listing p (map profile_of (drop p fs))) i ≡ slice_get (profiles_listing (p + 1) (map profile_of (drop (p + 1) fs))) (i - n)
  past_at i n long past =
      let far : length (profile_listing p (profile_of f)) ≤ i = omega arith in
      ap (λ es. slice_get es i) unrolled
      ∙ nth_right (profile_listing p (profile_of f)) (profiles_listing (p + 1) (map profile_of (drop (p + 1) fs))) i far
      ∙ ap (λ m. slice_get (profiles_listing (p + 1) (map profile_of (drop (p + 1) fs))) (i - m)) long

pub end_at : (fs : List Profile) (p i : ℕ) → length fs ≤ p → slice_get (profiles_listing p (map profile_of (drop p fs))) i ≡ None
end_at fs p i past = ap (λ gs. slice_get (profiles_listing p (map profile_of gs)) i) (drop_all p fs past)

-- The entries of the paths, which stand before the rest.
module _ (slice items : List PathRecord) (rest : List plain.Entry) (lent : slice ≡ items) (i : ℕ) where
  registers : List plain.Entry
  registers = map plain.register (map path_of items)

  registers_long : length registers ≡ length slice
  unfolding registers
  registers_long = length-map (map path_of items) plain.register ∙ length-map items path_of ∙ ap length (sym lent)

  pub path_at : (x : PathRecord) → i < length slice → x ≡ get_or slice i x → Some (plain.register (path_of x)) ≡ slice_get (map plain.register (map path_of items) ++ rest) i
  unfolding registers
  path_at x less is =
      let inside : i < length items = subst (λ (xs : List PathRecord). i < length xs) lent less in
      let read : x ≡ get_or items i x = subst (λ (xs : List PathRecord). x ≡ get_or xs i x) lent is in
      let mid : i < length (map path_of items) = rw (length-map items path_of) inside in
      let at : path_of x ≡ get_or (map path_of items) i (path_of x) = sym (get_or-map path_of items i x (path_of x) inside ∙ ap path_of (sym read)) in
      sym (nth_left registers rest i (omega (arith, registers_long)) ∙ nth_mapped plain.register (map path_of items) i (path_of x) mid at)

  pub past_paths : length slice ≤ i → slice_get rest (i - length slice) ≡ slice_get (map plain.register (map path_of items) ++ rest) i
  unfolding registers
  past_paths past =
      sym (nth_right registers rest i (omega (arith, registers_long)) ∙ ap (λ n. slice_get rest (i - n)) registers_long)

-- How many entries make the profiles.
abbrev pub listed_len : Profile → ℕ
listed_len f = length (profile_listing 0 (profile_of f))

same_long : (p : ℕ) (f : Profile) → length (profile_listing p (profile_of f)) ≡ listed_len f
same_long p f =
    by (vec_items f.generations)
  where
    by : (gens : List Generation) → length (profile_listing p (profile_from (map generation_of gens) f.current)) ≡ length (profile_listing 0 (profile_from (map generation_of gens) f.current))
    by [] = refl
    by (g ∷ gens) = some_long (g ∷ gens) f.current p (λ e. omega arith) ∙ sym (some_long (g ∷ gens) f.current 0 (λ e. omega arith))

profiles_from : (p n : ℕ) (fs : List Profile) → fold (λ a x. a + x) n (map listed_len fs) ≡ n + length (profiles_listing p (map profile_of fs))
profiles_from p n [] = omega arith
profiles_from p n (f ∷ fs) =
    profiles_from (p + 1) (n + listed_len f) fs
    ∙ omega (arith, same_long p f, length-append (profile_listing p (profile_of f)) (profiles_listing (p + 1) (map profile_of fs)))

pub profiles_long : (fs : List Profile) → sum (map listed_len fs) ≡ length (profiles_listing 0 (map profile_of fs))
profiles_long fs = profiles_from 0 0 fs ∙ omega arith

pub listing_long : (paths : List PathRecord) (fs : List Profile) → length (listing (record { paths = map path_of paths; profiles = map profile_of fs })) ≡ length paths + sum (map listed_len fs)
listing_long paths fs =
    length-append (map plain.register (map path_of paths)) (profiles_listing 0 (map profile_of fs))
    ∙ omega (arith, length-map (map path_of paths) plain.register, length-map paths path_of, profiles_long fs)

pub short : (n : ℕ) (cat : plain.Catalogue) → ∥ Sound n cat ∥₁ → length (listing cat) ≤ 61
short n cat sound = ∥∥₁_elim sound (hlevel props) (λ s. listing_short n cat s)
