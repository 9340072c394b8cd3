-- The blocks of a card by their contents: `f k` is the content of block k.
use Rattle.std.specs.Prelude.{ℕ, ◌+◌, ◌-◌, cond, List, [], ◌==◌}
use Rattle.model.specs.Plain.{Entry, remove}

abbrev pub Blocks : Type 0
Blocks = ℕ → List ℕ

-- The block before position i of a half: 0 for the first.
abbrev pub before : ℕ → ℕ → ℕ
before start i = cond (i == 0) 0 (start + i - 1)

-- What stands past the end of a list of entries.
abbrev pub no_entry : Entry
no_entry = remove []
