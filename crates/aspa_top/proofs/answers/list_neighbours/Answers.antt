use Rattle.std.proofs.Common.{rules}
use Rattle.listings.proofs.NeighbourLemmas.{none_listed}
use Rattle.aspa_top.proofs.answers.list_neighbours.Goals as goal

pub returns-in_err-list_hops-clause-lists : goal.returns-in_err-list_hops-clause-lists
returns-in_err-list_hops-clause-lists g c = none_listed c.args.progress.now.analyser c.args.asn _ c.from_residual.result (search rules)
