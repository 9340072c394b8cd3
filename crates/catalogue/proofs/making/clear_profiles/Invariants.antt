use Rattle.std.proofs.Common.{◌≡◌, length, map, take, replicate}
use Rattle.model.specs.Plain.{unused}
use Rattle.catalogue.specs.View.{profile_of}
use Rattle.catalogue.proofs.making.clear_profiles.Given as goal

abbrev pub invariant-loop-profile : goal.invariant-loop-profile
invariant-loop-profile l = (length l.profile-items ≡ 3) × (map profile_of (take l.profile-index l.profile-items) ≡ replicate l.profile-index unused)
