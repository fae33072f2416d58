use Rattle.std.proofs.Common.{length}
use Rattle.ramps.specs.Walk.{said}
use Rattle.ramps.specs.declared.walk.End.TheVariants.{Neighbour}
use Rattle.ramps.proofs.WalkLemmas.{Walked}
use Rattle.ramps.proofs.walk.down_ramps_beside.Given as goal

abbrev pub invariant-loop-j : goal.invariant-loop-j
invariant-loop-j g l =
    Walked (said Neighbour (g.T.Table.rows l.table) l.chain) (length l.chain) l.j (record { minimal = l.minimal; maximal = length l.chain })
