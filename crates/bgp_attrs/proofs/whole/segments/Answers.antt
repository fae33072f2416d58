use Rattle.std.proofs.Common.{sym, ◌∙◌, rules}
use Rattle.bgp_attrs.proofs.JoinedLemmas.{shortens, is_some-step, whole-end, whole-none, whole-joined}
use Rattle.bgp_attrs.specs.Segments.{segment_at}
use Rattle.bgp_attrs.proofs.SegmentLemmas.{segment_reader}
use Rattle.bgp_attrs.proofs.whole.segments.Goals as goal

pub returns-in_err-more-clause-none : goal.returns-in_err-more-clause-none
returns-in_err-more-clause-none c = rw c.from_residual.ensures (whole-none (segment_reader c.args.wide) c.args.bytes.now c.loop-rest.rest.now (search rules) (sym c.in_err-more.ensures) c.loop-rest.invariant)

pub loop-rest-smaller : goal.loop-rest-smaller
loop-rest-smaller c = shortens (segment_reader c.args.wide) c.loop-rest.rest.now _ c.in_ok-more.more.now (sym c.in_ok-more.ensures)

pub loop-rest-preserved : goal.loop-rest-preserved
loop-rest-preserved c = sym (is_some-step (segment_at c.args.wide) (shortens (segment_reader c.args.wide)) c.loop-rest.rest.now _ c.in_ok-more.more.now (sym c.in_ok-more.ensures)) ∙ c.loop-rest.invariant

pub invariant_of-result : goal.invariant_of-result
invariant_of-result c = record { whole = whole-end (segment_at c.args.wide) c.args.bytes.now c.loop-rest.rest.now (search rules) c.loop-rest.invariant }

pub returns-clause-some : goal.returns-clause-some
returns-clause-some c = whole-joined (segment_reader c.args.wide) c.args.bytes.now (whole-end (segment_at c.args.wide) c.args.bytes.now c.loop-rest.rest.now (search rules) c.loop-rest.invariant)
