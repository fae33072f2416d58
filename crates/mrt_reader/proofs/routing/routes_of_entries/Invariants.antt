use Rattle.mrt_reader.specs.Left.{entries_left}
use Rattle.mrt_reader.specs.Routing.{Going}
use Rattle.mrt_reader.proofs.routing.routes_of_entries.Given as goal

abbrev pub invariant-loop-entry : goal.invariant-loop-entry
invariant-loop-entry l = Going l.peers l.prefix (entries_left l.entries) (entries_left l.entry-iterator) l.noted l.no_path
