use Rattle.std.proofs.Common.{◌≡◌, ℕ, ◌-◌, ◌/◌, ◌%◌, ◌^◌, ◌<◌, get_or}
use Rattle.naming.specs.Hash.{character, number_of}
use Rattle.naming.proofs.hash.Hash.part.Given as goal

abbrev pub invariant-loop-place : goal.invariant-loop-place
invariant-loop-place l = (k : ℕ) → k < l.place → get_or l.character-items k 0 ≡ character (number_of l.self.bytes / 32 ^ (31 - k) % 32)
