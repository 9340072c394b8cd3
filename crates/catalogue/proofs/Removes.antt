-- The rules of a removal that look at every profile and every path.
use Rattle.std.proofs.Common.{◌≡◌, ℕ, true, List, map, sym}
use Rattle.std.proofs.lemmas.Bool.{both_ways}
use Rattle.model.specs.Plain as plain
use Rattle.model.specs.Fits.{any, names_path, Removable}
use Rattle.model.proofs.Chains.{any_place}
use Rattle.records.specs.declared.records.PathRecord.{PathRecord}
use Rattle.catalogue.specs.declared.profile.Profile.{Profile}
use Rattle.catalogue.specs.View.{catalogue_from, profile_of}

module _ (h : List ℕ) (paths : List PathRecord) (profiles : List Profile) where
  pub removable_named : true ≡ any (λ f. names_path h f.generations) (map profile_of profiles) → Removable (catalogue_from paths profiles) h → ⊥
  removable_named found all =
      let place = any_place (λ f. names_path h f.generations) (map profile_of profiles) plain.unused (sym found) in
      both_ways _ (all.unnamed place.0 place.1.0) place.1.1
