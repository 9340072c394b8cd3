use Rattle.std.proofs.Common.{sym, ◌∙◌, arith}
use Rattle.queries.proofs.Listings.{end_at, here_at, past_at}
use Rattle.queries.proofs.checkpoint.profiles_entry.Goals as goal

pub returns-then-left-count : goal.returns-then-left-count
returns-then-left-count c =
    let f = c.index-profiles-number in
    let p = c.loop-number.number in
    c.profile_entry.ensures
    ∙ sym (c.loop-number.invariant ∙ here_at c.args.profiles.now p f.result (omega arith) f.is c.loop-number.left (omega (arith, c.profile_len-count.ensures p)))

pub loop-number-preserved : goal.loop-number-preserved
loop-number-preserved c =
    let f = c.index-profiles-number in
    let p = c.loop-number.number in
    c.loop-number.invariant ∙ past_at c.args.profiles.now p f.result (omega arith) f.is c.loop-number.left c.profile_len-count.result (c.profile_len-count.ensures p) (omega arith)

pub returns : goal.returns
returns c = sym (c.loop-number.invariant ∙ end_at c.args.profiles.now c.loop-number.number c.loop-number.left (omega arith))
