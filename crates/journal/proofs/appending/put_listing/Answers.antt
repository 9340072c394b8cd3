use Rattle.std.proofs.Common.{length, sym, ap, ◌∙◌, arith}
use Rattle.std.proofs.lemmas.Option.{get_or_from_slice_get}
use Rattle.std.proofs.lemmas.Result.{err_from_is_err_and}
use Rattle.catalogue.specs.Whole.{catalogue_of}
use Rattle.model.specs.Listing.{listing}
use Rattle.journal.specs.Blocks.{no_entry}
use Rattle.journal.proofs.Steps.{listing_step, listing_broken, listing_since, kept_more}
use Rattle.journal.proofs.appending.put_listing.Goals as goal

pub returns-in_err-put_entry-clause-law : goal.returns-in_err-put_entry-clause-law
returns-in_err-put_entry-clause-law g c h s lit same into backed =
    let p = err_from_is_err_and c.from_residual.result c.from_residual.ensures.1 in
    let before = c.loop-place.invariant h s lit same into backed in
    let count = c.listing_len-count.ensures in
    let slot = rw c.unwrap-slot.ensures at c.slot.ensures in
    let entry = get_or_from_slice_get (listing (catalogue_of c.args.catalogue.now)) c.loop-place.place _ no_entry (sym (rw c.unwrap-entry.ensures at c.listing_entry.ensures)) in
    rw (p.1, p.2) (listing_since _ _ _ h s _ before.0 before.1
    (listing_broken _ _ _ h s _ c.loop-place.place before.0 same into before.2 (omega (arith, count.value)) (omega (arith, count.bound)) _ (rw (sym entry) at c.in_err-put_entry.ensures _ _ slot.1)))

pub loop-place-preserved : goal.loop-place-preserved
loop-place-preserved g c h s lit same into backed =
    let before = c.loop-place.invariant h s lit same into backed in
    let count = c.listing_len-count.ensures in
    let slot = rw c.unwrap-slot.ensures at c.slot.ensures in
    let entry = get_or_from_slice_get (listing (catalogue_of c.args.catalogue.now)) c.loop-place.place _ no_entry (sym (rw c.unwrap-entry.ensures at c.listing_entry.ensures)) in
    let more = listing_step _ _ _ h s _ c.loop-place.place before.0 same into before.2 (omega (arith, count.value)) (omega (arith, count.bound)) _ before.3 (rw (sym entry) at c.in_ok-put_entry.ensures _ _ slot.1) in
    (more.0, kept_more _ _ _ before.0 before.1 more.1, more.2, more.3)

pub returns-clause-law : goal.returns-clause-law
returns-clause-law g c h s lit same into backed =
    let all = c.loop-place.invariant h s lit same into backed in
    (all.0, all.1, all.2, c.listing_len-count.ensures.value ∙ ap (λ k. length (listing k)) (sym same), λ i y less may. all.3 i y (omega (arith, c.loop-place-test.false)) may)
