use Rattle.sorted_map.proofs.SearchLemmas.{searched}
use Rattle.sorted_map.proofs.chunk.search.Goals as goal

pub returns-clause-found : goal.returns-clause-found
returns-clause-found g c = (searched g.met.K.Ord.total c.args.key.now c.args.keys.now c.binary_search.result c.requires c.binary_search.ensures.bound c.binary_search.ensures.position).found

pub returns-clause-absent : goal.returns-clause-absent
returns-clause-absent g c = (searched g.met.K.Ord.total c.args.key.now c.args.keys.now c.binary_search.result c.requires c.binary_search.ensures.bound c.binary_search.ensures.position).absent
