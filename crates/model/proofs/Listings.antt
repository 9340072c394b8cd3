-- The listing of a sound catalogue makes that catalogue, from nothing.
use Rattle.std.proofs.Common.{◌≡◌, ℕ, zero, suc, ◌<◌, ◌≤◌, true, List, [], ◌∷◌, ◌++◌, map, length, get_or, take, sym, refl, ap, ◌∙◌, add-one, arith}
use Rattle.std.proofs.lemmas.List.{append-nil, append_assoc, take_all, take_more, map_push, set-get_or, set-set}
use Rattle.model.specs.Lists.{Chain}
use Rattle.model.specs.Plain.{Path, Generation, Profile, Catalogue, Entry, register, commit, switch, unused, nothing, no_path, no_generation}
use Rattle.model.specs.Fits.{profile, has_number, Registrable, Committable, with_profile, after, Makes, start, then, SoundProfile, Sound}
use Rattle.model.specs.Listing.{profile_listing, listing}
use Rattle.model.proofs.Sounds.{profile_set_same}

-- The same entries make the same catalogue.
made_as : (n : ℕ) (es fs : List Entry) (cat dog : Catalogue) → es ≡ fs → cat ≡ dog → Makes n es cat → Makes n fs dog
made_as n es fs cat dog e f made = rw (← e, ← f) made

-- These paths, and three profiles without generations.
abbrev bare : List Path → Catalogue
bare paths = record { paths = paths; profiles = nothing.profiles }

rows_made : (n : ℕ) (paths : List Path) → Chain (Registrable n) no_path paths → (m : ℕ) → m ≤ length paths → Makes n (map register (take m paths)) (bare (take m paths))
rows_made n paths rows zero le = start
rows_made n paths rows (suc m) le =
    let p = get_or paths m no_path in
    let more : take (suc m) paths ≡ take m paths ++ (p ∷ []) = rw (← add-one) (take_more paths m no_path (omega arith)) in
    let entries : map register (take m paths) ++ (register p ∷ []) ≡ map register (take (suc m) paths) = sym (ap (map register) more ∙ map_push register (take m paths) p) in
    made_as n _ _ (after (bare (take m paths)) (register p)) (bare (take (suc m) paths)) entries (ap bare (sym more)) (then (register p) (rows_made n paths rows m (omega arith)) (rows m (omega arith)))

-- A profile with the first m of its generations.
abbrev last_number : List Generation → ℕ → ℕ
last_number gens zero = 0
last_number gens (suc m) = (get_or gens m no_generation).number

abbrev stage : List Generation → ℕ → Profile
stage gens m = record { generations = take m gens; current = last_number gens m }

abbrev committing : ℕ → Generation → Entry
committing p g = commit p g.number g.path

module _ (n : ℕ) (es : List Entry) (base : Catalogue) (made : Makes n es base) (p : ℕ) (less : p < 3) (three : length base.profiles ≡ 3) (empty : profile base p ≡ unused) where
  commits_made : (gens : List Generation) → Chain (Committable base.paths) no_generation gens → (m : ℕ) → m ≤ length gens
      → Makes n (es ++ map (committing p) (take m gens)) (with_profile base p (stage gens m))
  commits_made gens rising zero le =
      let same : with_profile base p unused ≡ base = ap (λ f. with_profile base p f) (sym empty) ∙ ap (λ ps. record { paths = base.paths; profiles = ps }) (set-get_or base.profiles p unused) in
      made_as n es (es ++ []) base (with_profile base p unused) (sym (append-nil es)) (sym same) made
  commits_made gens rising (suc m) le =
      let g = get_or gens m no_generation in
      let now : Catalogue = with_profile base p (stage gens m) in
      let more : take (suc m) gens ≡ take m gens ++ (g ∷ []) = rw (← add-one) (take_more gens m no_generation (omega arith)) in
      let is : profile now p ≡ stage gens m = profile_set_same base p (stage gens m) (omega arith) in
      let entries : (es ++ map (committing p) (take m gens)) ++ (committing p g ∷ []) ≡ es ++ map (committing p) (take (suc m) gens) =
      append_assoc es (map (committing p) (take m gens)) (committing p g ∷ []) ∙ ap (λ l. es ++ l) (sym (ap (map (committing p)) more ∙ map_push (committing p) (take m gens) g)) in
      let gens-is : (profile now p).generations ≡ take m gens = ap (λ f. f.generations) is in
      let ends : after now (committing p g) ≡ with_profile base p (stage gens (suc m)) =
      ap (λ ps. record { paths = base.paths; profiles = ps }) (set-set base.profiles p (stage gens m) (record { generations = (profile now p).generations ++ (g ∷ []); current = g.number }))
      ∙ ap (λ gs. with_profile base p (record { generations = gs; current = g.number })) (ap (λ l. l ++ (g ∷ [])) gens-is ∙ sym more) in
      made_as n _ _ _ _ entries ends (then (committing p g) (commits_made gens rising m (omega arith)) (less, rw gens-is (rising m (omega arith))))

  profile_made_by : (gens : List Generation) (k : ℕ) → SoundProfile base.paths (record { generations = gens; current = k })
      → Makes n (es ++ profile_listing p (record { generations = gens; current = k })) (with_profile base p (record { generations = gens; current = k }))
  profile_made_by [] k fine =
      made_as n _ _ _ _ refl (ap (λ c. with_profile base p (record { generations = []; current = c })) (sym (fine.none refl))) (commits_made [] fine.rising 0 (omega arith))
  profile_made_by (g ∷ gs) k fine =
      let gens = g ∷ gs in
      let all : take (length gens) gens ≡ gens = take_all (length gens) gens (omega arith) in
      let now : Catalogue = with_profile base p (stage gens (length gens)) in
      let before = commits_made gens fine.rising (length gens) (omega arith) in
      let is : profile now p ≡ stage gens (length gens) = profile_set_same base p (stage gens (length gens)) (omega arith) in
      let gens-is : (profile now p).generations ≡ gens = ap (λ f. f.generations) is ∙ all in
      let fits : has_number k (profile now p).generations ≡ true = rw gens-is (fine.chosen (omega arith)) in
      let entries : (es ++ map (committing p) (take (length gens) gens)) ++ (switch p k ∷ []) ≡ es ++ (map (committing p) gens ++ (switch p k ∷ [])) =
      append_assoc es (map (committing p) (take (length gens) gens)) (switch p k ∷ []) ∙ ap (λ l. es ++ (map (committing p) l ++ (switch p k ∷ []))) all in
      let ends : after now (switch p k) ≡ with_profile base p (record { generations = gens; current = k }) =
      ap (λ ps. record { paths = base.paths; profiles = ps }) (set-set base.profiles p (stage gens (length gens)) (record { generations = (profile now p).generations; current = k }))
      ∙ ap (λ l. with_profile base p (record { generations = l; current = k })) gens-is in
      made_as n _ _ _ _ entries ends (then (switch p k) before (less, fits))

  profile_made : (f : Profile) → SoundProfile base.paths f → Makes n (es ++ profile_listing p f) (with_profile base p f)
  profile_made f fine = profile_made_by f.generations f.current fine

three_made : (n : ℕ) (paths : List Path) (profiles : List Profile) → Sound n (record { paths = paths; profiles = profiles }) → Makes n (listing (record { paths = paths; profiles = profiles })) (record { paths = paths; profiles = profiles })
three_made n paths [] s = absurd (omega (arith, s.three))
three_made n paths (a ∷ []) s = absurd (omega (arith, s.three))
three_made n paths (a ∷ (b ∷ [])) s = absurd (omega (arith, s.three))
three_made n paths (a ∷ (b ∷ (c ∷ []))) s =
    let all : take (length paths) paths ≡ paths = take_all (length paths) paths (omega arith) in
    let zeroth : Makes n (map register paths) (bare paths) = made_as n _ _ _ _ (ap (map register) all) (ap bare all) (rows_made n paths s.rows (length paths) (omega arith)) in
    let one = profile_made n (map register paths) (bare paths) zeroth 0 (omega arith) refl refl a (s.profiles 0 (omega arith)) in
    let two = profile_made n _ _ one 1 (omega arith) refl refl b (s.profiles 1 (omega arith)) in
    let All-three = profile_made n _ _ two 2 (omega arith) refl refl c (s.profiles 2 (omega arith)) in
    made_as n _ _ _ _ (simp (append_assoc, append-nil)) refl All-three
three_made n paths (a ∷ (b ∷ (c ∷ (d ∷ rest)))) s = absurd (omega (arith, s.three))

-- From nothing, the listing makes exactly the catalogue that it lists.
pub listing_makes : (n : ℕ) (cat : Catalogue) → Sound n cat → Makes n (listing cat) cat
listing_makes n cat s = three_made n cat.paths cat.profiles s
