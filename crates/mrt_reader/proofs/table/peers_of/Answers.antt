use Rattle.std.proofs.Common.{sym, ap, ◌∙◌, rules}
use Rattle.mrt_reader.specs.Readers.{peer_at}
use Rattle.mrt_reader.proofs.PeerLemmas.{with_front, front-step, front-end, front-none, peer_shortens}
use Rattle.bgp_attrs.specs.Joined.{items_of}
use Rattle.mrt_reader.proofs.table.peers_of.Goals as goal

pub returns-in-None : goal.returns-in-None
returns-in-None c = front-none peer_at c.loop-rest.peers.items c.args.bytes.now c.loop-rest.rest.now (search rules) (sym c.in-None.ensures) c.loop-rest.invariant

pub loop-rest-smaller : goal.loop-rest-smaller
loop-rest-smaller c = peer_shortens c.loop-rest.rest.now c.in-Some.peer c.in-Some.more.now (sym c.in-Some.ensures)

pub loop-rest-preserved : goal.loop-rest-preserved
loop-rest-preserved c =
    ap (λ ps. with_front ps (items_of peer_at c.in-Some.more.now)) c.in_ok-put_peer-in-Some.ensures
    ∙ front-step peer_at peer_shortens c.loop-rest.peers.items c.loop-rest.rest.now c.in-Some.peer c.in-Some.more.now (sym c.in-Some.ensures) ∙ c.loop-rest.invariant

pub returns : goal.returns
returns c = front-end peer_at c.loop-rest.peers.items c.args.bytes.now c.loop-rest.rest.now (search rules) c.loop-rest.invariant
