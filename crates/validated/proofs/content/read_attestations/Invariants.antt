use Rattle.validated.proofs.GatheringLemmas.{Gathering}
use Rattle.validated.proofs.content.read_attestations.Given as goal

abbrev pub invariant-loop-aspa : goal.invariant-loop-aspa
invariant-loop-aspa l = Gathering l.aspas l.aspa-index l.gathered
