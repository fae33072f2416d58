use Rattle.std.proofs.Common.{length}
use Rattle.ramps.specs.Walk.{said}
use Rattle.ramps.specs.declared.walk.End.TheVariants.{Origin}
use Rattle.ramps.proofs.WalkLemmas.{Walked}
use Rattle.ramps.proofs.walk.up_ramps.Given as goal

abbrev pub invariant-loop-j : goal.invariant-loop-j
invariant-loop-j g l =
    Walked (said Origin (g.T.Table.rows l.table) l.chain) (length l.chain) l.j (record { minimal = l.minimal; maximal = length l.chain })
