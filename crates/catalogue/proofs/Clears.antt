-- Profiles emptied one after the other.
use Rattle.std.proofs.Common.{◌≡◌, ℕ, ◌+◌, ◌<◌, ◌≤◌, List, [], ◌∷◌, ◌++◌, map, length, take, set, replicate, sym, ap, ◌∙◌, ap₂}
use Rattle.std.proofs.lemmas.List.{map_push, replicate_more, take_all, take_more_set}
use Rattle.model.specs.Plain as plain
use Rattle.catalogue.specs.declared.profile.Profile.{Profile}
use Rattle.catalogue.specs.View.{profile_of}

module _ (fs : List Profile) (i : ℕ) where
  pub cleared_more : (f : Profile) → i < length fs → profile_of f ≡ plain.unused → map profile_of (take i fs) ≡ replicate i plain.unused
      → map profile_of (take (i + 1) (set fs i f)) ≡ replicate (i + 1) plain.unused
  cleared_more f less empty so_far =
      ap (map profile_of) (take_more_set fs i f less)
      ∙ map_push profile_of (take i fs) f
      ∙ ap₂ (λ gs g. gs ++ (g ∷ [])) so_far empty
      ∙ replicate_more i plain.unused

  pub cleared_all : length fs ≤ i → i ≡ 3 → map profile_of (take i fs) ≡ replicate i plain.unused → map profile_of fs ≡ (plain.nothing).profiles
  cleared_all end three so_far =
      ap (map profile_of) (sym (take_all i fs end)) ∙ so_far ∙ ap (λ n. replicate n plain.unused) three
