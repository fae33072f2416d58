use Rattle.worked_feeds.proofs.caches.updated.Goals as goal

pub update-requires-clause-fits : goal.update-requires-clause-fits
update-requires-clause-fits c = c.fits_pdus.ensures.0 c.if-fits_pdus.true
