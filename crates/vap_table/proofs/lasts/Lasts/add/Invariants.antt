use Rattle.std.proofs.Common.{drop}
use Rattle.vap_table.proofs.LastsLemmas.{Adding}
use Rattle.vap_table.proofs.lasts.Lasts.add.Given as goal

abbrev pub invariant-loop-term : goal.invariant-loop-term
invariant-loop-term l = Adding l.self l.customer (drop l.term-index l.terms) l.fn.self l.terms
