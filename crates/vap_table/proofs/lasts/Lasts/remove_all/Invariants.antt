use Rattle.std.proofs.Common.{drop}
use Rattle.vap_table.proofs.LastsLemmas.{Dropping}
use Rattle.vap_table.proofs.lasts.Lasts.remove_all.Given as goal

abbrev pub invariant-loop-term : goal.invariant-loop-term
invariant-loop-term l = Dropping l.self l.customer (drop l.term-index l.terms) l.fn.self l.terms
