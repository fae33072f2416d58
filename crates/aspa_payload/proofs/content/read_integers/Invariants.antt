use Rattle.std.proofs.Common.{length}
use Rattle.aspa_payload.proofs.IntegersLemmas.{SoFar}
use Rattle.aspa_payload.proofs.content.read_integers.Given as goal

abbrev pub invariant-loop-rest : goal.invariant-loop-rest
invariant-loop-rest l = SoFar l.bytes l.rest l.list

abbrev pub decreases-loop-rest : goal.decreases-loop-rest
decreases-loop-rest l = length l.rest
