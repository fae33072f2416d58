use Rattle.std.proofs.Common.{rules, sym, arith}
use Rattle.av_base.proofs.PouringLemmas.{Grows-trans}
use Rattle.listings.proofs.AttestsOfLemmas.{source_added, source_front}
use Rattle.listings.proofs.attests_of.put_sources.Goals as goal

pub loop-source-preserved : goal.loop-source-preserved
loop-source-preserved g c = record {
  end = c.loop-source.invariant.end;
  so_far = source_added c.args.moment c.args.customer _ c.args.sources.now c.loop-source.source-index c.source-item.result c.loop-source.invariant.so_far c.loop-source-test.true (sym c.source-item.is)
      c.in_ok-put_source_lines.ensures.whole;
  grows = Grows-trans c.loop-source.invariant.grows c.put_source_lines.ensures.grows;
  sink_faults = omega (arith, c.loop-source.invariant.sink_faults, c.put_source_lines.ensures.sink_faults);
}

pub returns-in_err-put_source_lines : goal.returns-in_err-put_source_lines
returns-in_err-put_source_lines g c =
    let front = source_front c.args.moment c.args.customer c.args.sources.now c.loop-source.source-index c.source-item.result c.loop-source.invariant.so_far c.loop-source-test.true (sym c.source-item.is)
    c.put_source_lines.ensures.front in
    let grows = Grows-trans c.loop-source.invariant.grows c.put_source_lines.ensures.grows in
    search rules
