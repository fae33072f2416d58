use Rattle.vap_table.proofs.TalliesLemmas.{Following}
use Rattle.vap_table.proofs.tallies.Tallies.follow.Given as goal

abbrev pub invariant-loop-customer : goal.invariant-loop-customer
invariant-loop-customer l = Following l.parts l.change l.names l.customer-iterator l.fn.self l.tallies
