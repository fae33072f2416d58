use Rattle.std.proofs.Common.{◌∙◌, ap}
use Rattle.std.specs.FinMap as fin
use Rattle.std.specs.List.{filter_map}
use Rattle.rib_store.specs.Grounds.{grounds}
use Rattle.rib_store.specs.Cased.{Numbered}
use Rattle.rib_store.specs.Stored.{Stored}
use Rattle.rib_store.specs.Trails.{trail_at}
use Rattle.rib_store.proofs.TrailLemmas.{trails_whole}
use Rattle.rib_store.proofs.store.RibStore.trails.Goals as goal

pub returns : goal.returns
returns c =
    ap (λ (routes : Numbered). filter_map (trail_at c.self.inside.routing.cases) routes) c.iter.ensures.whole
    ∙ trails_whole (grounds c.self.inside.table c.self.inside.roles) c.self.inside.routing.routes c.self.inside.routing.cases c.self.invariant.stored c.iter.ensures.in_order
    ∙ ap (λ (s : Stored). fin.entries s.state.routes) c.self.view_is
