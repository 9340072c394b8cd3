use Rattle.std.proofs.Common.{length, vec_items, ap, ◌∙◌, arith}
use Rattle.queries.proofs.Listings.{none_long, some_long}
use Rattle.queries.proofs.checkpoint.profile_len.Goals as goal

pub returns-then-count-eq0 : goal.returns-then-count-eq0
returns-then-count-eq0 c p =
    let f = c.args.profile.now in
    let long = ap length c.generations-count.ensures in
    none_long (vec_items f.generations) f.current p (omega arith)

pub returns-else-count-eq0 : goal.returns-else-count-eq0
returns-else-count-eq0 c p =
    let f = c.args.profile.now in
    let long = ap length c.generations-count.ensures in
    some_long (vec_items f.generations) f.current p (λ e. omega arith) ∙ omega arith
