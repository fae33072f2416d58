use Rattle.std.proofs.Common.{◌≡◌}
use Rattle.std.specs.FinMap as fin
use Rattle.rib_store.specs.Routing.{state_on, AreRoutedOn}
use Rattle.rib_store.proofs.OfPeerLemmas.{stays}
use Rattle.rib_store.proofs.routing.Routing.withdraw_each.Given as goal

abbrev pub invariant-loop-key : goal.invariant-loop-key
invariant-loop-key l = record {
  routed : AreRoutedOn l.fn.on l.self;
  state : record (state_on l.fn.on l.self) { routes = fin.retain_keys (state_on l.fn.on l.self).routes (stays l.fn.peer) }
      ≡ record (state_on l.fn.on l.fn.self) { routes = fin.retain_keys (state_on l.fn.on l.fn.self).routes (stays l.fn.peer) };
}

abbrev pub decreases-loop-key : goal.decreases-loop-key
decreases-loop-key l = fin.len (state_on l.fn.on l.self).routes
