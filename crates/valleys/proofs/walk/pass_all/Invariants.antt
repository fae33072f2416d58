use Rattle.valleys.specs.Walk.{IsPassed}
use Rattle.valleys.proofs.walk.pass_all.Given as goal

abbrev pub invariant-loop-hop : goal.invariant-loop-hop
invariant-loop-hop g l = IsPassed (g.T.Table.rows l.table) l.chain l.hop l.opened l.found.items
