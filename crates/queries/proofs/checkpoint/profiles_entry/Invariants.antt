use Rattle.std.proofs.Common.{◌≡◌, map, drop}
use Rattle.std.specs.List.{slice_get}
use Rattle.model.specs.Listing.{profiles_listing}
use Rattle.catalogue.specs.View.{profile_of}
use Rattle.queries.proofs.checkpoint.profiles_entry.Given as goal

abbrev pub invariant-loop-number : goal.invariant-loop-number
invariant-loop-number l =
    slice_get (profiles_listing 0 (map profile_of l.profiles)) l.place ≡ slice_get (profiles_listing l.number (map profile_of (drop l.number l.profiles))) l.left
