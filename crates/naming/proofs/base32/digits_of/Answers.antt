use Rattle.std.proofs.Common.{◌≡◌, ◌-◌, ◌<◌, get_or, arith}
use Rattle.naming.specs.Hash.{character}
use Rattle.naming.proofs.Parts.{no_part, no_part_long, placed_more, spelled}
use Rattle.naming.proofs.base32.digits_of.Goals as goal

pub returns-then-text-ne32 : goal.returns-then-text-ne32
returns-then-text-ne32 c = no_part_long c.args.text.now c.if-text-ne32.true

pub returns-in_err-digit : goal.returns-in_err-digit
returns-in_err-digit c =
    rw c.from_residual.ensures (no_part c.args.text.now (31 - c.loop-place.place) (omega arith) c.in_err-digit.ensures)

pub loop-place-preserved : goal.loop-place-preserved
loop-place-preserved c =
    placed_more (λ k x. (x < 32) × (character x ≡ get_or c.args.text.now (31 - k) 0)) c.loop-place.digit-items c.loop-place.place _ (omega arith)
    c.loop-place.invariant c.in_ok-digit.ensures

pub returns : goal.returns
returns c =
    spelled c.loop-place.digit-items c.args.text.now c.loop-place-test.array_long (omega arith) (λ k h. c.loop-place.invariant k (omega arith))
