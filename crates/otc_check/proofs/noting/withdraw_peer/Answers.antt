use Rattle.std.proofs.Common.{◌<◌, ap, sym, subst, ◌∙◌}
use Rattle.std.specs.FinMap as fin
use Rattle.otc_check.specs.Marks.{Marked, marks_of, without_peer}
use Rattle.otc_check.proofs.OfPeerLemmas.{one_gone, all_gone, one_fewer}
use Rattle.otc_check.proofs.noting.withdraw_peer.Goals as goal

pub loop-key-smaller : goal.loop-key-smaller
loop-key-smaller c = subst (λ (m : Marked). fin.len m < fin.len (marks_of c.loop-key.marks)) (sym c.withdraw.ensures)
    (one_fewer c.args.peer.now c.loop-key.marks c.in-Some.key c.in-Some.ensures.some)

pub loop-key-preserved : goal.loop-key-preserved
loop-key-preserved c = ap (without_peer c.args.peer.now) c.withdraw.ensures
    ∙ one_gone c.args.peer.now (marks_of c.loop-key.marks) c.in-Some.key c.in-Some.ensures.some.of_peer
    ∙ c.loop-key.invariant

pub returns : goal.returns
returns c = sym (all_gone c.args.peer.now c.loop-key.marks c.in_default.ensures.none) ∙ c.loop-key.invariant
