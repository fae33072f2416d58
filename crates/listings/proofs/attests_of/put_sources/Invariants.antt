use Rattle.std.proofs.Common.{◌≡◌, ◌≤◌, drop, length}
use Rattle.av_base.specs.Told.{AppendsBefore, Grows}
use Rattle.listings.specs.EachAttests.{sources_text}
use Rattle.listings.specs.Listing.{all_of, pouring}
use Rattle.listings.proofs.attests_of.put_sources.Given as goal

abbrev pub invariant-loop-source : goal.invariant-loop-source
invariant-loop-source g l = record {
  end : l.source-index-end ≡ length l.sources;
  so_far : AppendsBefore (all_of (pouring g.W.Sink l.fn.out l.fn.text.items)) (all_of (pouring g.W.Sink l.out l.text.items))
      (sources_text l.moment l.customer l.sources) (sources_text l.moment l.customer (drop l.source-index l.sources));
  grows : Grows (g.W.Sink.written l.fn.out) (g.W.Sink.written l.out);
  sink_faults : g.W.Sink.faults l.fn.out ≤ g.W.Sink.faults l.out;
}
