use Rattle.std.proofs.Common.{length, sym, ap, rules}
use Rattle.bgp_attrs.proofs.JoinedLemmas.{shortens, whole-rest, left-none, left-some}
use Rattle.bgp_attrs.specs.Segments.{segment_at}
use Rattle.bgp_attrs.proofs.SegmentLemmas.{segment_reader}
use Rattle.bgp_attrs.proofs.pieces.SegmentsIterator.next.Goals as goal

pub returns-in_err-segment-clause-steps : goal.returns-in_err-segment-clause-steps
returns-in_err-segment-clause-steps c =
    let empty = left-none (segment_at c.args.self.now.wide) c.args.self.now.rest.now c.args.self.now.whole (sym c.in_err-segment.ensures) in
    rw c.from_residual.ensures (empty, empty)

pub invariant_of-self : goal.invariant_of-self
invariant_of-self c = record { whole = whole-rest (segment_at c.args.self.now.wide) (shortens (segment_reader c.args.self.now.wide)) c.args.self.now.rest.now _ c.in_ok-segment.rest.now c.args.self.now.whole (sym c.in_ok-segment.ensures) }

pub returns-clause-steps : goal.returns-clause-steps
returns-clause-steps c = left-some (segment_at c.args.self.now.wide) (shortens (segment_reader c.args.self.now.wide)) c.args.self.now.rest.now _ c.in_ok-segment.rest.now c.args.self.now.whole (sym c.in_ok-segment.ensures)

pub returns-clause-goes : goal.returns-clause-goes
returns-clause-goes c =
    let shorter = ap length (left-some (segment_at c.args.self.now.wide) (shortens (segment_reader c.args.self.now.wide)) c.args.self.now.rest.now _ c.in_ok-segment.rest.now c.args.self.now.whole (sym c.in_ok-segment.ensures)) in
    search rules
