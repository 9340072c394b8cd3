use Rattle.std.proofs.Common.{ℕ, Bool, eqb, Decides, rules, tests}
use Rattle.std.specs.Cmp.{unsigned_Decides}
use Rattle.std.proofs.lemmas.Iterator.{YieldsList-from_slice}
use Rattle.std.proofs.lemmas.Iterator.Consumers.{YieldsList-from_enumerate, YieldsList-from_filter}
use Rattle.order.specs.Rows.{Holds, bit}
use Rattle.order.proofs.Bests.{greatest_picked, mapped}
use Rattle.order.proofs.greatest.Goals as goal

pub returns : goal.returns
returns g c =
    let cmp = g.O.Order.compares c.args.order.now in
    let law = g.met.O.Order.lawful c.args.order.now in
    let xs = c.args.elements.now in
    let held = Holds c.args.places in
    let test : ℕ → Bool = λ k. eqb (bit c.args.places.bits k) 1 in
    let tells : (k : ℕ) → Decides (test k) (held k) = λ k. unsigned_Decides (bit c.args.places.bits k) 1 in
    rw (mapped (λ p. p.0) c.min_by.result c.map.result _ c.map.ensures.cases (λ x told. search (rules, tests)))
    (greatest_picked cmp law xs held test tells _ _ _ _ (λ p z o q k. search (rules, tests)) c.min_by.result c.min_by.ensures.ran
    (YieldsList-from_filter _ (λ q. test q.0) (YieldsList-from_enumerate (YieldsList-from_slice xs cc) cc) c.filter.ensures.closure (λ x r q k. search (rules, tests))))
