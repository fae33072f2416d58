use Rattle.std.proofs.Common.{drop}
use Rattle.attestations.specs.Terms.{HaveSetsOfProviders}
use Rattle.vap_table.specs.Turning.{rows_left}
use Rattle.vap_table.proofs.TurningLemmas.{Gathering}
use Rattle.vap_table.proofs.gathering.Gathered.of.Given as goal

abbrev pub invariant-loop-term : goal.invariant-loop-term
invariant-loop-term l = Gathering (rows_left l.from l.to l.terms) (rows_left l.from l.to (drop l.term-index l.terms)) l.gathered.rows l.gathered.numbers.items × HaveSetsOfProviders (drop l.term-index l.terms)
