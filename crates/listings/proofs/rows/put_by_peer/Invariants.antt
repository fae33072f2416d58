use Rattle.std.proofs.Common.{◌≤◌, flat_map}
use Rattle.av_base.specs.Told.{AppendsBefore, Grows}
use Rattle.rib_store.specs.Rows.{all_rows, peers_left}
use Rattle.listings.specs.Listing.{all_of, pouring}
use Rattle.listings.specs.Rows.{row_of}
use Rattle.listings.proofs.rows.put_by_peer.Given as goal

abbrev pub invariant-loop-peer : goal.invariant-loop-peer
invariant-loop-peer g l = record {
  so_far : AppendsBefore (all_of (pouring g.W.Sink l.fn.out l.fn.text.items)) (all_of (pouring g.W.Sink l.out l.text.items))
      (flat_map row_of (all_rows (peers_left l.fn.peers))) (flat_map row_of (all_rows (peers_left l.peer-iterator)));
  grows : Grows (g.W.Sink.written l.fn.out) (g.W.Sink.written l.out);
  sink_faults : g.W.Sink.faults l.fn.out ≤ g.W.Sink.faults l.out;
}
