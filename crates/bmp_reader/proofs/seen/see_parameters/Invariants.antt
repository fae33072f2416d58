use Rattle.std.proofs.Common.{◌≡◌, length}
use Rattle.bmp_reader.specs.Seen.{unseen}
use Rattle.bmp_reader.proofs.WalkLemmas.{seen_over}
use Rattle.bmp_reader.proofs.seen.see_parameters.Given as goal

abbrev pub invariant-loop-rest : goal.invariant-loop-rest
invariant-loop-rest l = seen_over l.seen l.rest ≡ seen_over unseen l.bytes

abbrev pub decreases-loop-rest : goal.decreases-loop-rest
decreases-loop-rest l = length l.rest
