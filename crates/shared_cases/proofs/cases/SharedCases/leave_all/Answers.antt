use Rattle.std.proofs.Common.{◌≡◌, ℕ, ap, subst, ◌∙◌}
use Rattle.shared_cases.specs.Cases.{Slots, at}
use Rattle.shared_cases.specs.Taking.{left_times, times}
use Rattle.shared_cases.proofs.cases.SharedCases.leave_all.Goals as goal

pub invariant_of-self : goal.invariant_of-self
invariant_of-self c = c.in-Ok.ensures.fit

pub returns-in-Ok : goal.returns-in-Ok
returns-in-Ok c = λ n.
    let often : times n c.as_slice.result.now ≡ times n c.args.numbers.items = ap (times n) c.as_slice.ensures.value
    ∙ c.grouped-numbers.ensures n in
    subst (λ (cases : Slots). at c.leave_each.new.slab.slots n ≡ left_times (times n c.args.numbers.items) (at cases n)) c.self.view_is
    (c.in-Ok.ensures.left n ∙ ap (λ (k : ℕ). left_times k (at c.self.inside.slab.slots n)) often)
