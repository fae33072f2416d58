use Rattle.std.proofs.lemmas.Cmp.{nat_cmp_total}
use Rattle.sorted_map.proofs.SearchLemmas.{searched}
use Rattle.hop_index.proofs.listed.search.Goals as goal

pub returns-clause-found : goal.returns-clause-found
returns-clause-found c = (searched nat_cmp_total c.args.number c.args.numbers.now c.binary_search.result c.requires.rising c.binary_search.ensures.bound c.binary_search.ensures.position).found

pub returns-clause-absent : goal.returns-clause-absent
returns-clause-absent c = (searched nat_cmp_total c.args.number c.args.numbers.now c.binary_search.result c.requires.rising c.binary_search.ensures.bound c.binary_search.ensures.position).absent
