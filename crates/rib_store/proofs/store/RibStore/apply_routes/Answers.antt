use Rattle.rib_store.proofs.store.RibStore.apply_routes.Goals as goal

-- where memory is wanting there are no routes
pub invariant_of-self-in-Err : goal.invariant_of-self-in-Err
invariant_of-self-in-Err g c = c.new.ensures.routed c.self.inside.table c.self.inside.roles
