use Rattle.std.proofs.Common.{◌≡◌, ℕ, ◌/◌, ◌%◌, ◌^◌, ◌<◌, get_or}
use Rattle.naming.specs.Digits.{value}
use Rattle.naming.proofs.hash.Hash.from_part.Given as goal

abbrev pub invariant-loop-place : goal.invariant-loop-place
invariant-loop-place l = (k : ℕ) → k < l.place → get_or l.byte-items k 0 ≡ value 32 l.digits / 256 ^ k % 256
