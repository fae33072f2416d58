use Rattle.std.proofs.Common.{rules, arith}
use Rattle.av_base.proofs.PouringLemmas.{Grows-trans}
use Rattle.av_base.proofs.ToldLemmas.{AppendsFront-before}
use Rattle.listings.proofs.ListingLemmas.{one_more}
use Rattle.listings.proofs.listing.put_all.Goals as goal

pub loop-out-preserved : goal.loop-out-preserved
loop-out-preserved g c = record {
  so_far = one_more _ _ (g.W.Sink.written c.loop-out.out) _ _ _ c.loop-out.invariant.so_far (rw c.if-branch.true at c.in_ok-put_next.ensures.steps) c.pour_piece.ensures.same;
  grows = Grows-trans c.loop-out.invariant.grows c.pour_piece.ensures.grows;
  sink_faults = omega (arith, c.loop-out.invariant.sink_faults, c.pour_piece.ensures.cause.later);
}

pub returns-in_err-pour_piece : goal.returns-in_err-pour_piece
returns-in_err-pour_piece g c =
    let front = AppendsFront-before (one_more _ _ (g.W.Sink.written c.loop-out.out) _ _ _ c.loop-out.invariant.so_far (rw c.if-branch.true at c.in_ok-put_next.ensures.steps) c.pour_piece.ensures.same) in
    let grows = Grows-trans c.loop-out.invariant.grows c.pour_piece.ensures.grows in
    search rules
