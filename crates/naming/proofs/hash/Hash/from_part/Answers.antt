use Rattle.std.proofs.Common.{◌≡◌, ◌/◌, ◌%◌, ◌^◌, ◌<◌, Some, sym, ap, ◌∙◌, subst, mod-lt, arith}
use Rattle.naming.specs.Digits.{value}
use Rattle.naming.proofs.Digits.{each_below}
use Rattle.naming.proofs.Parts.{bits_digit, part_of_digits, placed_more, same_part}
use Rattle.naming.proofs.hash.Hash.from_part.Goals as goal

pub loop-place-preserved : goal.loop-place-preserved
loop-place-preserved c =
    let n = value 32 c.in_ok-digits.digits in
    placed_more (λ k x. x ≡ n / 256 ^ k % 256) c.loop-place.byte-items c.loop-place.place _ (omega arith) c.loop-place.invariant
    (c.window.ensures ∙ bits_digit 8 n c.loop-place.place _ (omega arith))

pub invariant_of-result : goal.invariant_of-result
invariant_of-result c =
    let n = value 32 c.in_ok-digits.digits in
    let small = each_below 256 c.loop-place.byte-items (omega arith)
    (λ k h. subst (λ x. x < 256) (sym (c.loop-place.invariant k (omega (arith, c.loop-place-test.array_long)))) (mod-lt (n / 256 ^ k) (omega arith)))
    in
    record { whole = c.loop-place-test.array_long; small = small }

pub returns : goal.returns
returns c =
    let is = part_of_digits _ c.args.text.now c.loop-place.byte-items c.in_ok-digits.ensures c.loop-place-test.array_long
    (λ k h. c.loop-place.invariant k (omega arith))
    in
    record { cases = is; back = λ h e. ap Some (same_part _ h (is ∙ sym e)) }

pub returns-in_err-digits : goal.returns-in_err-digits
returns-in_err-digits c = rw c.from_residual.ensures record {
  cases = c.in_err-digits.ensures;
  back = λ h e. absurd (c.in_err-digits.ensures h.bytes e);
}
