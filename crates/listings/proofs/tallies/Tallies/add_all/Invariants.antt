use Rattle.std.proofs.Common.{drop}
use Rattle.listings.proofs.TallyAddLemmas.{Adding}
use Rattle.listings.proofs.tallies.Tallies.add_all.Given as goal

abbrev pub invariant-loop-key : goal.invariant-loop-key
invariant-loop-key g l = Adding g.K.Ord.cmp l.keys l.routes l.fn.self (drop l.key-index l.keys) l.self
