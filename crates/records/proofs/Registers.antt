-- What the parts of a test of a registration make together.
use Rattle.std.proofs.Common.{◌≡◌, ℕ, ◌<◌, ◌≤◌, Bool, true, false, List, map, length, Decides, arith}
use Rattle.std.proofs.lemmas.List.{length-map, length-take}
use Rattle.model.specs.Plain.{run}
use Rattle.model.specs.Fits.{Registrable, Climbing, InData, has_hash}
use Rattle.records.specs.declared.records.PathRecord.{PathRecord}
use Rattle.records.specs.Runs.{ApartFromAll, KnownAll}
use Rattle.records.specs.View.{path_of}

module _ (n : ℕ) (paths : List PathRecord) (p : PathRecord) where
  registrable_by : has_hash p.hash.bytes (map path_of paths) ≡ false → length paths < 40 → p.size ≤ 16384
      → InData n (run (path_of p)) × ApartFromAll (map path_of paths) (path_of p)
      → Climbing (path_of p).refs × KnownAll (map path_of paths) (path_of p)
      → Registrable n (map path_of paths) (path_of p)
  registrable_by new room small place refs = record {
    whole = (p.hash.whole, p.hash.small);
    new = new;
    room = (rw (length-map paths path_of) room);
    lawful = p.name.lawful;
    small = small;
    placed = place.0;
    apart = place.1;
    few = (simp (length-map, length-take) (omega (arith, p.refs.few)));
    climbing = refs.0;
    known = refs.1;
  }

  pub registrable_told : (placed refs : Bool) → has_hash p.hash.bytes (map path_of paths) ≡ false → length paths < 40 → p.size ≤ 16384 → placed ≡ true
      → Decides placed (InData n (run (path_of p)) × ApartFromAll (map path_of paths) (path_of p))
      → Decides refs (Climbing (path_of p).refs × KnownAll (map path_of paths) (path_of p))
      → Decides refs (Registrable n (map path_of paths) (path_of p))
  registrable_told placed refs new room small yes-placed place known =
      (λ e. registrable_by new room small (place.0 yes-placed) (known.0 e), λ all. known.1 (all.climbing, all.known))
