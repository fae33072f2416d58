use Rattle.std.proofs.Common.{drop}
use Rattle.vap_table.specs.Lasts.{all_terms}
use Rattle.vap_table.proofs.LastsLemmas.{Adding}
use Rattle.vap_table.proofs.sources.Sources.add_lasts.Given as goal

abbrev pub invariant-loop-terms : goal.invariant-loop-terms
invariant-loop-terms l = Adding l.lasts l.customer (all_terms (drop l.terms-index l.terms-items) l.customer) l.fn.lasts (all_terms l.self l.customer)
