-- The catalogue as plain data: paths in registration order, and profiles with their generations.
use Rattle.std.specs.Prelude.{ℕ, ◌+◌, ◌/◌, List, [], ◌∷◌}

-- A hash, a name and a content are rows of bytes.
abbrev pub Bytes : Type 0
Bytes = List ℕ

-- A path: its hash, its name, the length of its content in bytes, the first block of its run, and the hashes of the paths that it needs.
pub record Path : Type 0 where
  pub hash : Bytes
  pub name : Bytes
  pub size : ℕ
  pub first : ℕ
  pub refs : List Bytes

-- A generation names a path by its hash.
pub record Generation : Type 0 where
  pub number : ℕ
  pub path : Bytes

-- A profile has its generations by rising number. `current` is the number of one of them, or 0 where there is none.
pub record Profile : Type 0 where
  pub generations : List Generation
  pub current : ℕ

pub record Catalogue : Type 0 where
  pub paths : List Path
  pub profiles : List Profile

-- What one entry of the journal says: commit, switch and forget speak of a profile and a generation's number.
pub data Entry : Type 0 where
  register : Path → Entry
  commit : ℕ → ℕ → Bytes → Entry
  switch : ℕ → ℕ → Entry
  forget : ℕ → ℕ → Entry
  remove : Bytes → Entry

-- A profile without generations, and the catalogue with nothing in it.
abbrev pub unused : Profile
unused = record { generations = []; current = 0 }

abbrev pub nothing : Catalogue
nothing = record { paths = []; profiles = unused ∷ (unused ∷ (unused ∷ [])) }

-- What stands past the end of a list of paths or of generations.
abbrev pub no_path : Path
no_path = record { hash = []; name = []; size = 0; first = 0; refs = [] }

abbrev pub no_generation : Generation
no_generation = record { number = 0; path = [] }

-- A row of blocks: the first, and how many.
pub record Span : Type 0 where
  pub start : ℕ
  pub count : ℕ

-- The blocks that a content of this many bytes fills.
abbrev pub blocks : ℕ → ℕ
blocks size = (size + 255) / 256

-- The run of a path.
abbrev pub run : Path → Span
run p = record { start = p.first; count = blocks p.size }
