use Rattle.std.proofs.Common.{drop}
use Rattle.attestations.specs.ComputedTable.{attested}
use Rattle.vap_table.proofs.TurningLemmas.{Turning}
use Rattle.vap_table.proofs.sources.Sources.turned.Given as goal

abbrev pub invariant-loop-terms : goal.invariant-loop-terms
invariant-loop-terms l = Turning (attested l.from l.self l.customer) (attested l.to l.self l.customer) (attested l.from (drop l.terms-index l.terms-items) l.customer) (attested l.to (drop l.terms-index l.terms-items) l.customer) l.fn.tally l.tally
