use Rattle.std.proofs.Common.{◌≡◌, true, sym, subst}
use Rattle.std.specs.declared.option.Option.{Option}
use Rattle.hop_index.specs.Index.{has as hops_have}
use Rattle.shared_cases.specs.declared.case.StoredCase.{StoredCase}
use Rattle.shared_cases.specs.Cases.{Slots, at, Rewrites}
use Rattle.shared_cases.specs.Taking.{is_shared, lowered}
use Rattle.shared_cases.proofs.FitLemmas.{fit_lowered}
use Rattle.shared_cases.proofs.LeavingLemmas.{lowered_one, shared_some}
use Rattle.shared_cases.proofs.cases.SharedCases.lower.Goals as goal

pub invariant_of-self : goal.invariant_of-self
invariant_of-self c =
    fit_lowered (hops_have c.self.inside.kept.index) c.self.inside.slab.slots c.lower_by-one.new.slab.slots c.args.number 1 c.self.inside.kept
    c.minus-self-inside.result c.lower_by-one.result c.lower_by-one.ensures.lowered
    (shared_some (at c.self.inside.slab.slots c.args.number) (subst (λ (cases : Slots). is_shared (at cases c.args.number) ≡ true) (sym c.self.view_is) c.requires))
    c.lower_by-one.ensures.less c.minus-self-inside.ensures c.self.invariant

pub returns : goal.returns
returns c =
    subst (λ (cases : Slots). Rewrites cases c.lower_by-one.new.slab.slots c.args.number (lowered (at cases c.args.number))) c.self.view_is
    (subst (λ (v : Option StoredCase). Rewrites c.self.inside.slab.slots c.lower_by-one.new.slab.slots c.args.number v) (lowered_one (at c.self.inside.slab.slots c.args.number))
    c.lower_by-one.ensures.lowered)
