use Rattle.std.proofs.Common.{rules, refl, map, ◌-◌}
use Rattle.std.proofs.lemmas.Iterator.{items_from_collect, YieldsList-from_range, YieldsList-from_map, YieldsList-from_slice}
use Rattle.std.proofs.lemmas.Iterator.Adapters.{YieldsList-from_flat_map}
use Rattle.tallies.proofs.cuts.all_cuts.Goals as goal

pub returns : goal.returns
returns c = items_from_collect c.collect.result c.collect.ensures.ran
    (YieldsList-from_flat_map _ _ _ (λ x. x) (λ at. map (λ kept. record { at = at; kept = kept }) c.args.numbers.now) _
    (λ x u q k. (search rules, λ j b. YieldsList-from_map _ (λ kept. record { at = x; kept = kept }) {f = j.f} (YieldsList-from_slice c.args.numbers.now (search rules)) refl (λ y r f d. search rules)))
    (YieldsList-from_range 1 c.args.end (c.args.end - 1) c.flat_map.ensures.source refl)
    c.flat_map.ensures.closure c.flat_map.ensures.front c.flat_map.ensures.back c.flat_map.ensures.done)
