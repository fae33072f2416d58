use Rattle.rib_store.specs.Changes.{AreChanges}
use Rattle.listings.specs.Changes.{change_row}
use Rattle.listings.proofs.ListingLemmas.{all_listed}
use Rattle.listings.proofs.changes.put_changes.Goals as goal

pub returns : goal.returns
returns g c = all_listed (AreChanges c.args.store.now.state) change_row _ _ _ _ c.changes.ensures.changes c.put_all.ensures.listed
