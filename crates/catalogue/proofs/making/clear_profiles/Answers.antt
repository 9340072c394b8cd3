use Rattle.std.proofs.Common.{◌∙◌, arith}
use Rattle.std.proofs.lemmas.List.{length-set}
use Rattle.catalogue.proofs.Clears.{cleared_all, cleared_more}
use Rattle.catalogue.proofs.making.clear_profiles.Goals as goal

pub loop-profile-preserved : goal.loop-profile-preserved
loop-profile-preserved c =
    let fs = c.loop-profile.profile-items in
    let so_far = c.loop-profile.invariant in
    (length-set fs c.loop-profile.profile-index _ ∙ so_far.0, cleared_more fs c.loop-profile.profile-index _ (omega arith) c.clear.ensures so_far.1)

pub returns : goal.returns
returns c =
    let so_far = c.loop-profile.invariant in
    cleared_all c.loop-profile.profile-items c.loop-profile.profile-index (omega (arith, so_far.0)) (omega arith) so_far.1
