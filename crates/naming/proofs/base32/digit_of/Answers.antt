use Rattle.std.proofs.Common.{◌≡◌, arith, rules}
use Rattle.std.proofs.lemmas.Iterator.{IsFirst-from_position, YieldsList-from_slice}
use Rattle.naming.specs.Hash.{alphabet}
use Rattle.naming.proofs.base32.digit_of.Goals as goal

pub returns-in_err-digit : goal.returns-in_err-digit
returns-in_err-digit c =
    let none = IsFirst-from_position _ _ _ (λ x. x ≡ c.args.byte) (λ x. x ≡ c.args.byte → ⊥) c.in_err-digit.ensures.ran (YieldsList-from_slice alphabet c.iter.ensures.rest) (λ x q k. search rules) (λ x q k. search rules) in
    rw c.from_residual.ensures (λ d low same. none d 0 (omega arith) low same)
