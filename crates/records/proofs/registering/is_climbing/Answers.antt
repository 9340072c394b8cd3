use Rattle.std.proofs.Common.{rules, tests}
use Rattle.std.proofs.lemmas.List.Sorted.{answers_always}
use Rattle.records.proofs.Climbs.{before, climbing_told}
use Rattle.records.proofs.registering.is_climbing.Goals as goal

pub returns : goal.returns
returns c =
    climbing_told c.args.hashes.now c.is_sorted_by.result (c.is_sorted_by.ensures.cases before (answers_always _ _ _ (λ f a r q k. search (rules, tests))))
