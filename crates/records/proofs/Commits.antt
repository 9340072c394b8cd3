-- When a number is above those of all generations.
use Rattle.std.proofs.Common.{◌≡◌, ℕ, ◌<◌, Bool, not, ltb, List, map, Decides, sym, ap, ◌∙◌}
use Rattle.std.proofs.lemmas.Bool.{both_ways, ltb-true, lt-ltb, not-true, not-false}
use Rattle.std.specs.List.{list_all}
use Rattle.model.specs.Plain.{no_generation}
use Rattle.model.specs.Fits.{any}
use Rattle.records.specs.declared.records.Generation.{Generation}
use Rattle.records.specs.Orders.{Above}
use Rattle.records.specs.View.{generation_of}
use Rattle.records.proofs.Apart.{decides_none}
use Rattle.records.proofs.Finds.{all_is, any_map}

pub above_decided : (gens : List Generation) (n : ℕ) (r : Bool) → r ≡ list_all (λ g. ltb g.number n) gens → Decides r (Above (map generation_of gens) n)
above_decided gens n r found =
    let told : r ≡ not (any (λ g. not (ltb g.number n)) (map generation_of gens)) =
    found ∙ all_is (λ g. ltb g.number n) gens ∙ ap not (sym (any_map generation_of (λ g. not (ltb g.number n)) gens)) in
    rw told
    (decides_none (λ g. not (ltb g.number n)) (λ g. g.number < n) (map generation_of gens) no_generation
    (λ g e. ltb-true g.number n (not-false (ltb g.number n) e))
    (λ g e less. both_ways (ltb g.number n) (not-true (ltb g.number n) e) (lt-ltb g.number n less)))
