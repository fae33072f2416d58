use Rattle.std.proofs.Common.{◌≡◌, ◌+◌, ◌≤◌}
use Rattle.std.specs.Slice.Iter.{iter_rest}
use Rattle.path_model.specs.Batches.{all_changes}
use Rattle.path_model.specs.Routes.{performed}
use Rattle.rib_store.specs.Routing.{state_on, AreRoutedOn}
use Rattle.rib_store.specs.Touched.{announced}
use Rattle.rib_store.proofs.routing.Routing.perform_all.Given as goal

abbrev pub invariant-loop-batch : goal.invariant-loop-batch
invariant-loop-batch g l = record {
  routed : AreRoutedOn l.fn.on l.self;
  state : record (state_on l.fn.on l.self) { routes = performed (all_changes (iter_rest l.batch-iterator)) (state_on l.fn.on l.self).routes }
      ≡ record (state_on l.fn.on l.fn.self) { routes = performed l.fn.changes (state_on l.fn.on l.fn.self).routes };
  ticks : l.steps + announced (all_changes (iter_rest l.batch-iterator)) ≤ l.fn.steps + announced l.fn.changes;
}
