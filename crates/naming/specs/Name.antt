-- The law of names.
use Rattle.std.specs.Prelude.{◌≡◌, ℕ, ◌<◌, ◌≤◌, Bool, true, false, ◌&&◌, ◌||◌, List, [], ◌∷◌, length, codes, ◌==◌, ◌≢◌, nat_le, slice_index}

-- A to Z, a to z
abbrev pub letter : ℕ → Bool
letter b = (nat_le 65 b && nat_le b 90) || (nat_le 97 b && nat_le b 122)

-- 0 to 9
abbrev pub decimal : ℕ → Bool
decimal b = nat_le 48 b && nat_le b 57

abbrev pub one_of : List ℕ → ℕ → Bool
one_of [] b = false
one_of (c ∷ cs) b = b == c || one_of cs b

abbrev pub punctuation : ℕ → Bool
punctuation b = one_of (codes "+-._?=") b

abbrev pub allowed : ℕ → Bool
allowed b = letter b || (decimal b || punctuation b)

-- A name has 1 to 24 bytes, all allowed, and does not begin with a dot (46).
abbrev pub Lawful : List ℕ → Type 0
Lawful text =
    (1 ≤ length text) × (length text ≤ 24) × ((k : ℕ) → k < length text → allowed (slice_index text k) ≡ true) × (slice_index text 0 ≢ 46)
