use Rattle.std.proofs.Common.{map, sym, ◌∙◌}
use Rattle.std.specs.Str.{bytes_eq}
use Rattle.records.specs.View.{path_of}
use Rattle.records.proofs.Finds.{found_any}
use Rattle.records.proofs.lookups.is_registered.Goals as goal

pub returns : goal.returns
returns c =
    c.is_some.ensures ∙ sym (found_any (λ p. bytes_eq p.hash c.args.hash.now.bytes) (map path_of c.args.paths.now) c.row_of.result c.row_of.ensures)
