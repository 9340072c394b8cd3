use Rattle.std.proofs.Common.{◌≡◌, ℕ, ◌-◌, ◌<◌, get_or}
use Rattle.naming.specs.Hash.{character}
use Rattle.naming.proofs.base32.digits_of.Given as goal

abbrev pub invariant-loop-place : goal.invariant-loop-place
invariant-loop-place l = (k : ℕ) → k < l.place → (get_or l.digit-items k 0 < 32) × (character (get_or l.digit-items k 0) ≡ get_or l.text (31 - k) 0)
