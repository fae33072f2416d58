use Rattle.std.proofs.Common.{sym, subst, ◌∙◌}
use Rattle.origin_validation.specs.Held.{IsRight, IsRightBeside, Pair}
use Rattle.origin_validation.proofs.HeldLemmas.{pair_exact}
use Rattle.origin_validation.proofs.walk.Walk.step_to.Goals as goal

pub returns-in-Equal-clause-state : goal.returns-in-Equal-clause-state
returns-in-Equal-clause-state c =
    let right : IsRight c.args.self.now c.in_ok-beside.beside.now c.in_ok-beside.state.now = subst (IsRightBeside c.args.self.now) c.in_ok-beside.was c.loop.invariant.beside in
    let same = pair_exact c.in_ok-beside.beside.now c.args.pair.now (sym c.cmp.ensures ∙ c.in-Equal.is) in
    subst (λ (p : Pair). IsRight c.args.self.now p c.in_ok-beside.state.now) same right
