-- A set of rows, held in the bits of one number.
use Rattle.std.specs.Prelude.{◌≡◌, ℕ, zero, suc, ◌+◌, ◌/◌, ◌%◌, ◌^◌, ◌≤◌, Some, None, Option}
use Rattle.order.specs.declared.rows.RowSet.{RowSet}

-- Bit k of n.
abbrev pub bit : ℕ → ℕ → ℕ
bit n k = n / 2 ^ k % 2

-- Row k is in the set: bit k is one.
abbrev pub Holds : RowSet → ℕ → Type 0
Holds s k = bit s.bits k ≡ 1

-- The set t holds exactly the rows of which P says so.
abbrev pub HasJust : RowSet → (ℕ → Type 0) → Type 0
HasJust t P = (k : ℕ) → (Holds t k → P k) × (P k → Holds t k)

-- How many of the rows below k are in the set.
unfoldable pub number : RowSet → ℕ → ℕ
number s zero = 0
number s (suc k) = number s k + bit s.bits k

-- The least row of the set, or none where it is empty.
abbrev pub Least : RowSet → Option ℕ → Type 0
Least s None = (k : ℕ) → Holds s k → ⊥
Least s (Some i) = Holds s i × ((k : ℕ) → Holds s k → i ≤ k)
