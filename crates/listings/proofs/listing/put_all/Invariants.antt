use Rattle.std.proofs.Common.{◌≤◌, length}
use Rattle.std.specs.List.{concat}
use Rattle.av_base.specs.Told.{AppendsBefore, Grows}
use Rattle.listings.specs.Listing.{all_of, pouring}
use Rattle.listings.proofs.listing.put_all.Given as goal

abbrev pub invariant-loop-out : goal.invariant-loop-out
invariant-loop-out g l = record {
  so_far : AppendsBefore (all_of (pouring g.W.Sink l.fn.out l.fn.text.items)) (all_of (pouring g.W.Sink l.out l.text.items))
      (concat (g.G.Listing.left l.fn.listing)) (concat (g.G.Listing.left l.listing));
  grows : Grows (g.W.Sink.written l.fn.out) (g.W.Sink.written l.out);
  sink_faults : g.W.Sink.faults l.fn.out ≤ g.W.Sink.faults l.out;
}

abbrev pub decreases-loop-out : goal.decreases-loop-out
decreases-loop-out g l = length (g.G.Listing.left l.listing)
