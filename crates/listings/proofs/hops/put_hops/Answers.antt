use Rattle.listings.proofs.HopsLemmas.{hops_listed}
use Rattle.listings.proofs.hops.put_hops.Goals as goal

pub returns : goal.returns
returns g c = hops_listed (g.T.Table.rows c.args.table.now) c.args.trail.now c.ases_of.result.now _ _ _ c.ases_of.ensures.ases c.put_all.ensures.listed
