-- A program as a path of a card.
use Rattle.std.specs.Prelude.{◌≡◌, ℕ, ◌<◌, ◌⊎◌, List, [], length, Some, None, Option}
use Rattle.naming.specs.declared.hash.Hash.{Hash}
use Rattle.model.specs.Plain.{blocks}
use Rattle.records.specs.declared.records.PathRecord.{PathRecord}
use Rattle.records.specs.View.{listed}
use Rattle.catalogue.specs.declared.catalogues.Catalogue.{Catalogue}
use Rattle.catalogue.specs.Whole.{catalogue_of}
use Rattle.queries.specs.Room.{FreeRun, taken_by}
use Rattle.programs.specs.declared.Program.{Program}

-- Where a content of this size may lie on the card, or that there is no room for it.
abbrev pub Room : Catalogue → ℕ → Option ℕ → Type 0
Room c size = FreeRun c.blocks (taken_by (catalogue_of c).paths []) (blocks size)

-- The path has the program's hash and name, this size and these references, and lies in the last free run.
pub record IsPlaced (c : Catalogue) (program : Program) (size : ℕ) (needed : List Hash) (p : PathRecord) : Type 0 where
  pub hash : p.hash ≡ program.hash
  pub name : p.name ≡ program.name
  pub size_is : p.size ≡ size
  pub refs : listed p.refs ≡ needed
  pub room : Room c size (Some p.first)

abbrev pub Placed : Catalogue → Program → ℕ → List Hash → Option PathRecord → Type 0
Placed c program size needed None = Room c size None ⊎ (8 < length needed)
Placed c program size needed (Some p) = IsPlaced c program size needed p

-- The program whose path this is.
abbrev pub IsOf : PathRecord → Program → Type 0
IsOf path program = (program.hash ≡ path.hash) × (program.name ≡ path.name)
