use Rattle.std.specs.List.{AllByRecursion}
use Rattle.mrt_reader.specs.Left.{entries_left}
use Rattle.mrt_reader.specs.Routes.{AnyOf, IsWithin, IsBeyond}
use Rattle.mrt_reader.specs.Routing.{Leads}
use Rattle.mrt_reader.proofs.routing.are_within.Given as goal

abbrev pub invariant-loop-entry : goal.invariant-loop-entry
invariant-loop-entry l = Leads (AllByRecursion (IsWithin l.peers)) (AnyOf (IsBeyond l.peers)) (entries_left l.entries) (entries_left l.entry-iterator)
