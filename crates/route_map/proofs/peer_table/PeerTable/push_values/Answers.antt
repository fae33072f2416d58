use Rattle.std.proofs.Common.{sym}
use Rattle.std.proofs.lemmas.List.{append-nil}
use Rattle.route_map.proofs.ValueLemmas.{values_of_peer}
use Rattle.route_map.proofs.peer_table.PeerTable.push_values.Goals as goal

pub returns-in-None : goal.returns-in-None
returns-in-None g c = rw (← c.self.view_is, c.in-None.is) (sym (append-nil c.args.into.now.items))

pub returns-in-Some : goal.returns-in-Some
returns-in-Some g c = rw (← c.self.view_is, c.in-Some.is, values_of_peer c.self.inside.peer c.in-Some.routes) c.push_values.ensures
