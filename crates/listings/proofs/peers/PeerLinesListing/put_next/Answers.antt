use Rattle.rib_store.specs.Rows.{peer_rows_left, peers_left}
use Rattle.listings.proofs.PeerCountLemmas.{first_few}
use Rattle.listings.proofs.peers.PeerLinesListing.put_next.Goals as goal

pub summary_under-requires : goal.summary_under-requires
summary_under-requires c = record {
  few = first_few (peers_left c.args.self.now.peers) (peers_left c.next.new.self) c.in-Some.peer (peer_rows_left c.in-Some.rows) c.args.self.now.few c.in-Some.ensures.steps;
}
