use Rattle.std.proofs.Common.{◌≡◌}
use Rattle.rib_store.specs.Counts.{counted}
use Rattle.rib_store.specs.Rows.{peer_rows_left, rows_under}
use Rattle.listings.specs.EachPeer.{AreWithin, summary_under}
use Rattle.listings.proofs.PeerCountLemmas.{plus}
use Rattle.listings.proofs.peers.summary_under.Given as goal

abbrev pub invariant-loop-row : goal.invariant-loop-row
invariant-loop-row l = record {
  whole : plus l.summary (counted (rows_under l.fn.peer (peer_rows_left l.row-iterator))) ≡ summary_under l.fn.roles (l.fn.peer, peer_rows_left l.fn.rows);
  within : AreWithin l.summary;
}
