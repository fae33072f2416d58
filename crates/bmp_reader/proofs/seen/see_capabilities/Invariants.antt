use Rattle.std.proofs.Common.{◌≡◌, length}
use Rattle.bmp_reader.proofs.WalkLemmas.{seen_with}
use Rattle.bmp_reader.proofs.seen.see_capabilities.Given as goal

abbrev pub invariant-loop-rest : goal.invariant-loop-rest
invariant-loop-rest l = seen_with l.seen l.rest ≡ seen_with l.fn.before l.bytes

abbrev pub decreases-loop-rest : goal.decreases-loop-rest
decreases-loop-rest l = length l.rest
