use Rattle.route_map.proofs.HoldersLemmas.{held_still}
use Rattle.route_map.proofs.keys_by_number.KeysByNumber.remove.Goals as goal

pub let_go-requires : goal.let_go-requires
let_go-requires c =
    held_still c.self.inside.peers.entries c.remove.new.peers.entries c.self.inside.holders.keys c.self.invariant c.args.key.now c.args.number c.remove.ensures
