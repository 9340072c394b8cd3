use Rattle.std.proofs.Common.{◌≡◌, ◌+◌, ◌-◌, get_or, take, drop, refl, ap, arith}
use Rattle.card.proofs.Reading.{name_cases}
use Rattle.card.proofs.decoding.decode_name.Goals as goal

pub returns : goal.returns
returns c block is =
    let rest = c.args.rest.now in
    let wide : 21 + get_or rest 20 0 - 21 ≡ get_or rest 20 0 = omega arith in
    name_cases block rest is (get_or rest 20 0) _ (omega arith) refl c.if-length-gt-LONGEST_NAME.false (ap (λ n. take n (drop 21 rest)) wide) c.new.result
    c.new.ensures.cases
