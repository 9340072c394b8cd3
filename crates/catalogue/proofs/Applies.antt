-- The catalogue's view after a change of one part, and that it stays sound.
use Rattle.std.proofs.Common.{◌≡◌, ℕ, ◌<◌, ◌≤◌, not, eqb, List, [], ◌∷◌, ◌++◌, map, length, get_or, set, Some, vec_items, vec_len, vec_capacity, filter, Vec, sym, ap, ◌∙◌, subst, ap₂, arith}
use mathlib.Core.Logic.{∥∥₁_map}
use Rattle.std.specs.List.{remove}
use Rattle.std.specs.declared.alloc.Global.{Global}
use Rattle.std.specs.Str.{bytes_eq}
use Rattle.std.proofs.lemmas.List.{get_or-map, length-map, length-set, map_push, map-set}
use Rattle.model.specs.Plain as plain
use Rattle.model.specs.Fits.{Fits, Sound, after, profile, with_profile}
use Rattle.model.proofs.Sounds.{sound_after, sound_nothing}
use Rattle.records.specs.declared.records.PathRecord.{PathRecord}
use Rattle.catalogue.specs.declared.profile.Profile.{Profile}
use Rattle.catalogue.specs.declared.catalogues.Catalogue.{Catalogue}
use Rattle.catalogue.specs.Change.{Single, Taken}
use Rattle.records.specs.Find.{RowOf}
use Rattle.catalogue.specs.View.{catalogue_from, profile_from, profile_of}
use Rattle.records.specs.View.{generation_of, path_of}
use Rattle.catalogue.specs.Whole.{catalogue_of}
use Rattle.catalogue.proofs.Changes.{taken_view}
use Rattle.catalogue.proofs.Singles.{single_hash, single_number}

pub sound_kept : (n : ℕ) (cat : plain.Catalogue) (e : plain.Entry) (next : plain.Catalogue) → ∥ Sound n cat ∥₁ → Fits n cat e → next ≡ after cat e → ∥ Sound n next ∥₁
sound_kept n cat e next sound fits is = ∥∥₁_map sound (λ s. subst (Sound n) (sym is) (sound_after n cat e s fits))

module _ (paths : List PathRecord) (profiles : List Profile) where
  pub view_pushed : (p : PathRecord) (more : List PathRecord) → more ≡ paths ++ (p ∷ [])
      → catalogue_from more profiles ≡ after (catalogue_from paths profiles) (plain.register (path_of p))
  view_pushed p more is =
      let to : List plain.Path → plain.Catalogue = λ ps. record { paths = ps; profiles = map profile_of profiles } in
      ap to (ap (map path_of) is ∙ map_push path_of paths p)

  pub view_at : (p : ℕ) (f : Profile) → p < length profiles → profile_of (get_or profiles p f) ≡ profile (catalogue_from paths profiles) p
  view_at p f less = sym (get_or-map profile_of profiles p f plain.unused less)

  pub view_set : (p : ℕ) (f : Profile) (g : plain.Profile) → profile_of f ≡ g
      → catalogue_from paths (set profiles p f) ≡ with_profile (catalogue_from paths profiles) p g
  view_set p f g is =
      let to : List plain.Profile → plain.Catalogue = λ fs. record { paths = map path_of paths; profiles = fs } in
      ap to (map-set profile_of profiles p f ∙ ap (set (map profile_of profiles) p) is)

  module _ (p : ℕ) (f x : Profile) (less : p < length profiles) (is : x ≡ get_or profiles p x) where
    here : profile_of x ≡ profile (catalogue_from paths profiles) p
    here = ap profile_of is ∙ view_at p x less

    pub view_switched : (k : ℕ) → profile_of f ≡ profile_from (profile_of x).generations k
        → catalogue_from paths (set profiles p f) ≡ after (catalogue_from paths profiles) (plain.switch p k)
    view_switched k made = view_set p f _ (made ∙ ap (λ q. profile_from q.generations k) here)

    pub view_committed : (k : ℕ) (h : List ℕ)
        → profile_of f ≡ profile_from ((profile_of x).generations ++ (record { number = k; path = h } ∷ [])) k
        → catalogue_from paths (set profiles p f) ≡ after (catalogue_from paths profiles) (plain.commit p k h)
    view_committed k h made =
        view_set p f _ (made ∙ ap (λ q. profile_from (q.generations ++ (record { number = k; path = h } ∷ [])) k) here)

    pub view_forgotten : (k : ℕ) → Single (λ g. eqb g.number k) plain.no_generation (profile (catalogue_from paths profiles) p).generations
        → Taken (λ g. eqb g.number k) plain.no_generation (profile_of x).generations (profile_of f).generations
        → f.current ≡ x.current
        → catalogue_from paths (set profiles p f) ≡ after (catalogue_from paths profiles) (plain.forget p k)
    view_forgotten k single gone same =
        let left = gone (subst (λ (q : plain.Profile). Single (λ g. eqb g.number k) plain.no_generation q.generations) (sym here) single) in
        view_set p f _
        (ap₂ profile_from left same ∙ ap (λ q. profile_from (filter (λ g. not (eqb g.number k)) q.generations) q.current) here)

  pub view_removed : (h : List ℕ) (left : List PathRecord) → Single (λ q. bytes_eq q.hash h) plain.no_path (map path_of paths)
      → Taken (λ q. bytes_eq q.hash h) plain.no_path (map path_of paths) (map path_of left)
      → catalogue_from left profiles ≡ after (catalogue_from paths profiles) (plain.remove h)
  view_removed h left single gone =
      let to : List plain.Path → plain.Catalogue = λ ps. record { paths = ps; profiles = map profile_of profiles } in ap to (gone single)

-- The same, of a catalogue that the entry fits.
module _ (cat : Catalogue) (p : ℕ) (f x : Profile) (at : x ≡ get_or cat.profiles p x) where
  abbrev pub SetTo : plain.Entry → Type 0
  SetTo e = catalogue_from (vec_items cat.paths) (set cat.profiles p f) ≡ after (catalogue_of cat) e

  -- The invariant of the catalogue with the profile in place.
  pub still_whole : (e : plain.Entry) → Fits cat.blocks (catalogue_of cat) e → SetTo e
      → (length (set cat.profiles p f) ≡ 3) × ∥ Sound cat.blocks (catalogue_from (vec_items cat.paths) (set cat.profiles p f)) ∥₁
  still_whole e fits is =
      (length-set cat.profiles p f ∙ cat.three, sound_kept cat.blocks (catalogue_of cat) e _ cat.sound fits is)

  there : p < 3 → p < length cat.profiles
  there less = omega (arith, cat.three)

  pub switched : (k : ℕ) → Fits cat.blocks (catalogue_of cat) (plain.switch p k)
      → profile_of f ≡ profile_from (profile_of x).generations k → SetTo (plain.switch p k)
  switched k fits is = view_switched (vec_items cat.paths) cat.profiles p f x (there fits.0) at k is

  pub committed : (k : ℕ) (h : List ℕ) → Fits cat.blocks (catalogue_of cat) (plain.commit p k h)
      → profile_of f ≡ profile_from ((profile_of x).generations ++ (record { number = k; path = h } ∷ [])) k → SetTo (plain.commit p k h)
  committed k h fits is = view_committed (vec_items cat.paths) cat.profiles p f x (there fits.0) at k h is

  pub forgotten : (k : ℕ) → Fits cat.blocks (catalogue_of cat) (plain.forget p k)
      → Taken (λ g. eqb g.number k) plain.no_generation (profile_of x).generations (profile_of f).generations
      → f.current ≡ x.current → SetTo (plain.forget p k)
  forgotten k fits gone same =
      view_forgotten (vec_items cat.paths) cat.profiles p f x (there fits.0) at k
      (single_number cat.blocks (catalogue_of cat) cat.sound p k fits.0) gone same

  -- There is room for one more generation.
  pub has_room : (k : ℕ) (h : List ℕ) → Fits cat.blocks (catalogue_of cat) (plain.commit p k h)
      → vec_len x.generations < 6
  has_room k h fits =
      let gens = x.generations in
      let here = ap profile_of at ∙ view_at (vec_items cat.paths) cat.profiles p x (there fits.0) in
      let long = length-map (vec_items gens) generation_of in
      let same = ap (λ q. length q.generations) here in
      omega (arith, gens.ok.0, fits.1.room)

-- The same, where the paths change.
module _ (cat : Catalogue) (paths : Vec PathRecord Global) where
  abbrev pub PathsTo : plain.Entry → Type 0
  PathsTo e = catalogue_from (vec_items paths) cat.profiles ≡ after (catalogue_of cat) e

  pub whole_paths : (e : plain.Entry) → Fits cat.blocks (catalogue_of cat) e → PathsTo e → vec_capacity paths ≡ vec_capacity cat.paths
      → (40 ≤ vec_capacity paths) × (length cat.profiles ≡ 3) × ∥ Sound cat.blocks (catalogue_from (vec_items paths) cat.profiles) ∥₁
  whole_paths e fits is cap =
      (omega (arith, cat.room), cat.three, sound_kept cat.blocks (catalogue_of cat) e _ cat.sound fits is)

pub path_room : (cat : Catalogue) (p : PathRecord) → Fits cat.blocks (catalogue_of cat) (plain.register (path_of p)) → vec_len cat.paths < vec_capacity cat.paths
path_room cat p fits =
    let long = length-map (vec_items cat.paths) path_of in
    omega (arith, cat.paths.ok.0, cat.room, fits.room)

pub removed_at : (cat : Catalogue) (h : List ℕ) (slice left : List PathRecord) (i : ℕ) → slice ≡ vec_items cat.paths
    → RowOf (map path_of slice) h (Some i) → left ≡ remove (vec_items cat.paths) i
    → catalogue_from left cat.profiles ≡ after (catalogue_of cat) (plain.remove h)
removed_at cat h slice left i lent found is =
    view_removed (vec_items cat.paths) cat.profiles h left (single_hash cat.blocks (catalogue_of cat) cat.sound h)
    (taken_view path_of (λ q. bytes_eq q.hash h) plain.no_path slice (vec_items cat.paths) lent left i found is)

-- A catalogue with nothing in it.
pub view_nothing : (paths : List PathRecord) (fs : List Profile) → paths ≡ [] → map profile_of fs ≡ (plain.nothing).profiles → catalogue_from paths fs ≡ plain.nothing
view_nothing paths fs none unused =
    let to : List plain.Path → List plain.Profile → plain.Catalogue = λ ps gs. record { paths = ps; profiles = gs } in ap₂ to (ap (map path_of) none) unused

pub three_made : (fs : List Profile) → map profile_of fs ≡ (plain.nothing).profiles → length fs ≡ 3
three_made fs made = sym (length-map fs profile_of) ∙ ap length made

pub sound_new : (n : ℕ) (cat : plain.Catalogue) → cat ≡ plain.nothing → ∥ Sound n cat ∥₁
sound_new n cat is = ∣ subst (Sound n) (sym is) (sound_nothing n) ∣₁
