use Rattle.model.proofs.Listings.{listing_makes}
use Rattle.model.proofs.Rows.{listing_short}
use Rattle.model.proofs.listing_makes.Goals as goal

pub returns : goal.returns
returns c n cat s = (listing_makes n cat s, listing_short n cat s)
