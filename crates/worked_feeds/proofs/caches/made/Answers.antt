use Rattle.worked_feeds.proofs.caches.made.Goals as goal

pub new-requires : goal.new-requires
new-requires c = c.fits_pdus.ensures.0 c.if-fits_pdus.true
