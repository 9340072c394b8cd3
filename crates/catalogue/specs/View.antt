-- Profiles, and paths and profiles together, as the model's plain data.
use Rattle.std.specs.Prelude.{ℕ, List, map, vec_items}
use Rattle.model.specs.Plain as plain
use Rattle.records.specs.declared.records.PathRecord.{PathRecord}
use Rattle.records.specs.View.{generation_of, path_of}
use Rattle.catalogue.specs.declared.profile.Profile.{Profile}

abbrev pub profile_from : List plain.Generation → ℕ → plain.Profile
profile_from gens current = record { generations = gens; current = current }

abbrev pub profile_of : Profile → plain.Profile
profile_of f = profile_from (map generation_of (vec_items f.generations)) f.current

abbrev pub catalogue_from : List PathRecord → List Profile → plain.Catalogue
catalogue_from paths profiles = record { paths = map path_of paths; profiles = map profile_of profiles }
