use Rattle.std.proofs.Common.{◌≡◌, ◌+◌, ◌≤◌}
use Rattle.path_model.specs.Batches.{announcements}
use Rattle.path_model.specs.Routes.{performed}
use Rattle.rib_store.specs.Routing.{state_on, AreRoutedOn, path_by, IsFound}
use Rattle.rib_store.specs.Touched.{announced}
use Rattle.rib_store.proofs.routing.Routing.announce_all.Given as goal

abbrev pub invariant-loop-nlri : goal.invariant-loop-nlri
invariant-loop-nlri g l = record {
  routed : AreRoutedOn l.fn.on l.self;
  found : IsFound l.self.cases l.fn.peer.asn l.by;
  path : path_by l.self.cases l.by ≡ path_by l.fn.self.cases l.fn.by;
  state : record (state_on l.fn.on l.self) { routes = performed (announcements l.fn.peer (path_by l.fn.self.cases l.fn.by) l.nlri-iterator) (state_on l.fn.on l.self).routes }
      ≡ record (state_on l.fn.on l.fn.self) { routes = performed (announcements l.fn.peer (path_by l.fn.self.cases l.fn.by) l.fn.nlris) (state_on l.fn.on l.fn.self).routes };
  ticks : l.steps + announced (announcements l.fn.peer (path_by l.fn.self.cases l.fn.by) l.nlri-iterator) ≤ l.fn.steps + announced (announcements l.fn.peer (path_by l.fn.self.cases l.fn.by) l.fn.nlris);
}
