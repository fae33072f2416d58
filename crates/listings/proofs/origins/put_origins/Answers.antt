use Rattle.rib_store.specs.Trails.{trails_left}
use Rattle.listings.proofs.OriginsLemmas.{origins_listed}
use Rattle.listings.proofs.origins.put_origins.Goals as goal

pub returns-clause-lists : goal.returns-clause-lists
returns-clause-lists g c =
    origins_listed _ _ _ _ (trails_left c.trails.result) _ _ c.trails.ensures c.make_room.ensures c.put_each.ensures.whole c.put_each.ensures.front
    c.put_each.ensures.held c.put_each.ensures.sink_cause c.put_each.ensures.sink_faults c.put_each.ensures.grows c.put_each.ensures.no_shelf
