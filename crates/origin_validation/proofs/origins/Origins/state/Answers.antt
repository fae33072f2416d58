use Rattle.std.proofs.Common.{ℕ, Some, sym, subst, ◌∙◌}
use Rattle.origin_model.specs.Current.{Parts, IsCurrent}
use Rattle.origin_model.specs.OriginState.{HasState}
use Rattle.origin_validation.proofs.HeldLemmas.{more_right, origin_like}
use Rattle.origin_validation.proofs.origins.Origins.state.Goals as goal

pub returns-in-Some-clause-state : goal.returns-in-Some-clause-state
returns-in-Some-clause-state c =
    let held = sym c.get.ensures.value ∙ sym c.copied.ensures ∙ c.in-Some.is in
    let right = c.self.invariant.each (c.args.prefix.now, c.unwrap_or.result) c.in-Some.state held in
    subst (λ (p : Parts). HasState (IsCurrent p) c.args.prefix.now c.args.origin c.in-Some.state) c.self.view_is
    (origin_like (IsCurrent c.self.inside.records) c.args.prefix.now c.args.origin c.in-Some.state
    (subst (λ (n : ℕ). HasState (IsCurrent c.self.inside.records) c.args.prefix.now (Some n) c.in-Some.state) c.unwrap_or.ensures right))

pub invariant_of-self-2 : goal.invariant_of-self-2
invariant_of-self-2 c =
    more_right c.self.inside.records c.self.inside.held.entries c.insert.new.self.entries (c.args.prefix.now, c.unwrap_or.result) c.state-state.result
    c.in_ok-insert.ensures.updates.0 c.state-state.ensures c.self.invariant
