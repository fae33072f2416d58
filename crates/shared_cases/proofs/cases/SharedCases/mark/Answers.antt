use Rattle.std.proofs.Common.{◌≡◌, ℕ, subst, ◌∙◌}
use Rattle.hop_index.specs.Index.{has as hops_have}
use Rattle.shared_cases.specs.Cases.{Slots, at, marked_now}
use Rattle.shared_cases.proofs.KeptLemmas.{all_marked, marked_all_kept}
use Rattle.shared_cases.proofs.TotalsLemmas.{marked_totals}
use Rattle.shared_cases.proofs.VerdictLemmas.{marked_verdicts}
use Rattle.shared_cases.proofs.cases.SharedCases.mark.Goals as goal

pub invariant_of-result : goal.invariant_of-result
invariant_of-result c =
    let marked : (n : ℕ) → at c.mark_all.new.slab.slots n ≡ marked_now (at c.self.inside.slab.slots n) =
    all_marked c.self.inside.slab.slots c.mark_all.new.slab.slots c.self.inside.kept.names (hops_have c.self.inside.kept.index) c.self.inside.kept.peers c.self.inside.kept.differed c.self.invariant.0
    c.mark_all.ensures.marked c.mark_all.ensures.others in (
      marked_all_kept c.self.inside.slab.slots c.mark_all.new.slab.slots c.self.inside.kept.names (hops_have c.self.inside.kept.index) c.self.inside.kept.peers c.self.inside.kept.differed c.new.result c.self.invariant.0 marked,
      c.self.invariant.1 ∙ marked_totals c.self.inside.slab.slots c.mark_all.new.slab.slots marked,
      marked_verdicts c.self.inside.slab.slots c.mark_all.new.slab.slots c.self.inside.kept.verdicts c.self.invariant.2 marked,
    )

pub returns : goal.returns
returns c = subst (λ (cases : Slots). (n : ℕ) → at c.mark_all.new.slab.slots n ≡ marked_now (at cases n)) c.self.view_is
    (all_marked c.self.inside.slab.slots c.mark_all.new.slab.slots c.self.inside.kept.names (hops_have c.self.inside.kept.index) c.self.inside.kept.peers c.self.inside.kept.differed c.self.invariant.0 c.mark_all.ensures.marked c.mark_all.ensures.others)
