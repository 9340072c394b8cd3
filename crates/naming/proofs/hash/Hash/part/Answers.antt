use Rattle.std.proofs.Common.{◌≡◌, ◌-◌, ◌/◌, ◌%◌, ◌^◌, ap, ◌∙◌, arith}
use Rattle.naming.specs.Hash.{character, number_of}
use Rattle.naming.proofs.Parts.{bits_digit, part_filled, placed_more}
use Rattle.naming.proofs.hash.Hash.part.Goals as goal

pub loop-place-preserved : goal.loop-place-preserved
loop-place-preserved c =
    let n = number_of c.args.self.now.bytes in
    let place = c.loop-place.place in
    placed_more (λ k x. x ≡ character (n / 32 ^ (31 - k) % 32)) c.loop-place.character-items place _ (omega arith) c.loop-place.invariant
    (ap character (c.window-digit.ensures ∙ bits_digit 5 n (31 - place) _ (omega arith)))

pub returns : goal.returns
returns c = part_filled c.args.self.now.bytes c.loop-place.character-items (omega arith) (λ k h. c.loop-place.invariant k (omega arith))
