use Rattle.journal.proofs.Steps.{label_of_place}
use Rattle.journal.proofs.appending.put_label.Goals as goal

pub returns : goal.returns
returns g c =
    (c.encode_label.result, (label_of_place _ _ c.args.at.now c.args.count _ c.start.ensures c.encode_label.ensures.labels, c.put.ensures))
