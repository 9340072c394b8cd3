use Rattle.recovery.proofs.Takes.{took}
use Rattle.recovery.proofs.loading.take_entry.Goals as goal

pub returns : goal.returns
returns c =
    let entry = rw c.in_ok-entry.ensures.ok_part at c.decode_entry.ensures in took _ _ _ _ c.apply.result entry.cases entry.once c.apply.ensures
