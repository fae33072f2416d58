use Rattle.std.proofs.Common.{is_some, sym}
use Rattle.std.specs.FinMap as fin
use Rattle.path_model.specs.Entries.{own_left}
use Rattle.rib_store.specs.Rows.{peers_left}
use Rattle.listings.proofs.PeersLemmas.{noted_before, peers_listed}
use Rattle.listings.proofs.peers.put_peers.Goals as goal

pub returns : goal.returns
returns g c =
    peers_listed c.roles-roles.result.now c.in_ok-seen.seen.keys (peers_left c.rows_by_peer-2.result) (own_left c.own.result) c.own.ensures.whole c.own.ensures.rising
    c.rows_by_peer-2.ensures.peers c.rows_by_peer-2.ensures.some
    (noted_before c.args.store.now.state (λ a. is_some (fin.get c.roles-roles.result.now.set a)) c.in_ok-seen.seen.keys (peers_left c.rows_by_peer.result) (peers_left c.rows_by_peer-2.result)
    c.rows_by_peer.ensures.rows c.rows_by_peer.ensures.some c.rows_by_peer-2.ensures.rows c.rows_by_peer-2.ensures.some c.in_ok-seen.ensures)
    c.args.store.now.state _ _ _ (sym c.roles-roles.ensures) c.rows_by_peer-2.ensures.rows c.put_all.ensures.listed
