use Rattle.std.proofs.Common.{ap, ◌∙◌}
use Rattle.std.specs.List.{list_any}
use Rattle.std.specs.Str.{bytes_eq}
use Rattle.records.specs.View.{bytes_of, listed}
use Rattle.records.proofs.Finds.{mapped_any}
use Rattle.records.proofs.records.PathRecord.refers_to.Goals as goal

pub returns : goal.returns
returns c =
    let h = c.args.hash.now.bytes in
    c.contains.ensures.value ∙ ap (list_any (λ r. bytes_eq r.bytes h)) c.as_slice.ensures ∙ mapped_any bytes_of (λ r. bytes_eq r h) (listed c.args.self.now.refs)
