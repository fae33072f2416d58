use Rattle.std.proofs.Common.{rules, arith}
use Rattle.av_base.proofs.PouringLemmas.{Grows-trans}
use Rattle.rib_store.specs.Rows.{peer_rows_left, peers_left}
use Rattle.listings.proofs.RowsLemmas.{peer_added, peer_front}
use Rattle.listings.proofs.rows.put_by_peer.Goals as goal

pub loop-peer-preserved : goal.loop-peer-preserved
loop-peer-preserved g c = record {
  so_far = peer_added _ (peers_left c.loop-peer.peer-iterator) (peers_left c.next.new.self) c.in-Some.peer (peer_rows_left c.in-Some.rows) c.loop-peer.invariant.so_far
      c.in-Some.ensures.steps c.in_ok-put_all.ensures.listed.whole;
  grows = Grows-trans c.loop-peer.invariant.grows c.put_all.ensures.listed.grows;
  sink_faults = omega (arith, c.loop-peer.invariant.sink_faults, c.put_all.ensures.listed.sink_faults);
}

pub returns-in_err-put_all : goal.returns-in_err-put_all
returns-in_err-put_all g c =
    let front = peer_front (peers_left c.loop-peer.peer-iterator) (peers_left c.next.new.self) c.in-Some.peer (peer_rows_left c.in-Some.rows) c.loop-peer.invariant.so_far
    c.in-Some.ensures.steps c.put_all.ensures.listed.front in
    let grows = Grows-trans c.loop-peer.invariant.grows c.put_all.ensures.listed.grows in
    search rules
