use Rattle.std.proofs.Common.{subst}
use Rattle.shared_cases.specs.Cases.{Slots}
use Rattle.shared_cases.specs.Differed.{HaveDiffered}
use Rattle.shared_cases.proofs.FitLemmas.{fit_rejudged}
use Rattle.shared_cases.proofs.KeptLemmas.{all_differed}
use Rattle.shared_cases.proofs.cases.SharedCases.rejudge.Goals as goal

pub invariant_of-cases : goal.invariant_of-cases
invariant_of-cases g c =
    fit_rejudged c.self.inside.slab.slots c.rejudge_all.new.slab.slots c.self.inside.kept c.rejudge_all.new.kept c.append.new.self c.in_ok-newly.newly
    c.self.invariant c.in_ok-newly.ensures.same c.in_ok-newly.ensures.own
    (all_differed c.self.inside.slab.slots c.rejudge_all.new.slab.slots c.args.touched.now c.in_ok-newly.ensures.others c.self.invariant.0.settled c.in_ok-newly.ensures.differed)
    c.in_ok-newly.ensures.newly c.in_ok-newly.ensures.kept c.in_ok-append.ensures
    (c.in_ok-newly.ensures.counted c.self.invariant.1) (c.in_ok-newly.ensures.verdicts c.self.invariant.2)

pub returns-clause-differed : goal.returns-clause-differed
returns-clause-differed g c = subst (λ (cases : Slots). HaveDiffered cases c.rejudge_all.new.slab.slots) c.self.view_is
    (all_differed c.self.inside.slab.slots c.rejudge_all.new.slab.slots c.args.touched.now c.in_ok-newly.ensures.others c.self.invariant.0.settled c.in_ok-newly.ensures.differed)
