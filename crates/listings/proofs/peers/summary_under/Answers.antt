use Rattle.std.proofs.Common.{arith}
use Rattle.rib_store.specs.Rows.{peer_rows_left}
use Rattle.listings.proofs.PeerCountLemmas.{as_many, counted_few}
use Rattle.listings.proofs.peers.summary_under.Goals as goal

pub one_more-summary-requires-clause-few : goal.one_more-summary-requires-clause-few
one_more-summary-requires-clause-few c =
    counted_few c.loop-row.summary _ c.args.peer (peer_rows_left c.loop-row.row-iterator) c.loop-row.invariant.whole
    (omega (arith, c.requires.few, as_many c.args.peer (peer_rows_left c.args.rows)))
