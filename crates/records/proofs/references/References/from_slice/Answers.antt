use Rattle.std.proofs.Common.{length, Ok, sym, ap, ◌∙◌}
use Rattle.std.proofs.lemmas.List.{take_at}
use Rattle.records.proofs.Places.{all_blank, blank_after, same_listed}
use Rattle.records.proofs.references.References.from_slice.Goals as goal

pub invariant_of-result-clause-rest : goal.invariant_of-result-clause-rest
invariant_of-result-clause-rest c =
    let hs = c.args.hashes.now in
    let empty = c.new.result in
    blank_after c.copy_from_slice.new.self hs empty.hashes c.copy_from_slice.ensures.after (all_blank empty c.new.ensures (length hs))

pub returns-clause-back : goal.returns-clause-back
returns-clause-back c =
    let hs = c.args.hashes.now in
    let same = c.copy_from_slice.ensures.after in
    λ refs e. ap Ok (same_listed _ refs (take_at c.copy_from_slice.new.self _ (length hs) (ap length same) ∙ same ∙ sym e))
