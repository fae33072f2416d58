use Rattle.std.proofs.Common.{Some, ap, sym, length, slice_get, ◌≡◌, ◌∙◌}
use Rattle.std.proofs.lemmas.Bool.{ltb-true}
use Rattle.std.proofs.lemmas.Option.{slice_get-get_or}
use Rattle.route_map.proofs.InverseLemmas.{same_peer}
use Rattle.route_map.proofs.by_peer.slot_of.Goals as goal

pub returns-then-eq : goal.returns-then-eq
returns-then-eq c =
    let here : slice_get c.args.peers.now c.slot-hint.result ≡ Some c.args.peer.now =
    slice_get-get_or c.args.peers.now c.slot-hint.result c.in-Some.held.now (ltb-true c.slot-hint.result (length c.args.peers.now) (sym c.in-Some.ensures.lookup.0))
    ∙ ap Some (sym c.in-Some.ensures.lookup.1 ∙ same_peer c.in-Some.held.now c.args.peer.now (sym c.eq.ensures ∙ c.if-eq.true)) in
    sym ((c.requires c.args.peer.now c.slot-hint.result).1 here)
