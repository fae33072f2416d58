use Rattle.std.proofs.Common.{◌≡◌, ◌≤◌, length}
use Rattle.std.specs.Io.KnownBytes.{append_known}
use Rattle.av_base.specs.Told.{Grows}
use Rattle.rib_store.specs.Trails.{trails_left}
use Rattle.listings.specs.EachOrigin.{ListsBefore}
use Rattle.listings.proofs.origins.put_each.Given as goal

abbrev pub invariant-loop-key : goal.invariant-loop-key
invariant-loop-key g l = record {
  so_far : ListsBefore l.fn.origins (trails_left l.fn.trails) (trails_left l.left)
      (append_known (g.W.Sink.written l.fn.out) l.fn.text.items) (append_known (g.W.Sink.written l.out) l.text.items);
  same : l.origins ≡ l.fn.origins;
  grows : Grows (g.W.Sink.written l.fn.out) (g.W.Sink.written l.out);
  sink_faults : g.W.Sink.faults l.fn.out ≤ g.W.Sink.faults l.out;
}

abbrev pub decreases-loop-key : goal.decreases-loop-key
decreases-loop-key g l = length (trails_left l.left)
