use Rattle.records.specs.View.{entry_of}
use Rattle.card.proofs.Marking.{clean_kept, few_entry, says_kept}
use Rattle.card.proofs.encoding.encode_entry.Goals as goal

pub returns-clause-says : goal.returns-clause-says
returns-clause-says c =
    let entry = c.args.entry.now in says_kept _ _ c.put_trailer.ensures.below (entry_of entry) (few_entry entry) c.fields_of-block.ensures.says

pub returns-clause-clean : goal.returns-clause-clean
returns-clause-clean c = clean_kept _ _ c.put_trailer.ensures.below (entry_of c.args.entry.now) c.fields_of-block.ensures.clean
