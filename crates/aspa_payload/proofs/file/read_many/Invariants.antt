use Rattle.std.proofs.Common.{length}
use Rattle.aspa_payload.proofs.FileLemmas.{Reading}
use Rattle.aspa_payload.proofs.file.read_many.Given as goal

abbrev pub invariant-loop-rest : goal.invariant-loop-rest
invariant-loop-rest l = Reading l.bytes l.rest l.gathered l.unit

abbrev pub decreases-loop-rest : goal.decreases-loop-rest
decreases-loop-rest l = length l.rest
