use Rattle.route_map.proofs.HoldersLemmas.{held_more, held_in_vain}
use Rattle.route_map.proofs.keys_by_number.KeysByNumber.insert.Goals as goal

pub let_go-requires : goal.let_go-requires
let_go-requires c =
    held_in_vain c.self.inside.peers.entries c.insert-2.new.peers.entries c.self.inside.holders.keys c.self.invariant c.args.key.now c.args.number c.insert.new.self.keys c.holder_of.result
    c.holder_of.ensures c.in_ok-insert.ensures.updates.0 c.in-Err.ensures.same

pub invariant_of-self-in-Ok : goal.invariant_of-self-in-Ok
invariant_of-self-in-Ok c =
    held_more c.self.inside.peers.entries c.insert-2.new.peers.entries c.self.inside.holders.keys c.self.invariant c.args.key.now c.args.number c.insert.new.self.keys c.holder_of.result
    c.holder_of.ensures c.in_ok-insert.ensures.updates.0 c.in-Ok.ensures.set
