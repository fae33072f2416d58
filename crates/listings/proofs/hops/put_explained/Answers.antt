use Rattle.std.proofs.Common.{rules}
use Rattle.listings.proofs.HopsLemmas.{explained_listed, explained_stopped}
use Rattle.listings.proofs.hops.put_explained.Goals as goal

pub returns-in_err-put_why : goal.returns-in_err-put_why
returns-in_err-put_why g c = explained_stopped _ _ _ _ _ _ c.in_err-put_why.ensures.err (search rules)

pub returns : goal.returns
returns g c = explained_listed (g.T.Table.rows c.args.table.now) c.args.trail.now c.args.verdict c.args.witness _ _ _ _ _ _ c.in_ok-put_why.ensures.ok c.put_hops.ensures
