use Rattle.std.proofs.Common.{◌≡◌}
use Rattle.path_model.specs.Batches.{removals}
use Rattle.path_model.specs.Routes.{performed}
use Rattle.rib_store.specs.Routing.{state_on, AreRoutedOn}
use Rattle.rib_store.proofs.routing.Routing.withdraw_all.Given as goal

abbrev pub invariant-loop-nlri : goal.invariant-loop-nlri
invariant-loop-nlri l = record {
  routed : AreRoutedOn l.fn.on l.self;
  state : record (state_on l.fn.on l.self) { routes = performed (removals l.fn.peer l.nlri-iterator) (state_on l.fn.on l.self).routes }
      ≡ record (state_on l.fn.on l.fn.self) { routes = performed (removals l.fn.peer l.fn.nlris) (state_on l.fn.on l.fn.self).routes };
}
