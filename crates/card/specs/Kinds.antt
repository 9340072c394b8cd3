-- The kinds of entries, by the first byte of a block.
use Rattle.std.specs.Prelude.{◌≡◌, ℕ, Result, MatchResult}
use Rattle.card.specs.declared.kind.Kind.{Kind}
use Rattle.card.specs.declared.kind.Kind.TheVariants.{Register, Commit, Switch, Forget, Remove}
use Rattle.card.specs.declared.kind.UnknownKind.{UnknownKind}

-- The byte of a kind.
abbrev pub byte_of : Kind → ℕ
byte_of Register = 1
byte_of Commit = 2
byte_of Switch = 3
byte_of Forget = 4
byte_of Remove = 5

-- The kind that has that byte, where there is one.
abbrev pub IsKindOf : ℕ → Result Kind UnknownKind → Type 0
IsKindOf byte r = MatchResult r (λ kind. byte_of kind ≡ byte) (λ _. (kind : Kind) → byte_of kind ≡ byte → ⊥)
