use Rattle.std.proofs.Common.{sym, ◌∙◌}
use Rattle.route_map.proofs.NextLemmas.{alone, below, behind, progress}
use Rattle.route_map.proofs.nlri_iter.NlriIterIterator.next.Goals as goal

pub invariant_of-self : goal.invariant_of-self
invariant_of-self g c =
    (alone c.self.inside.plain c.self.inside.identified c.self.invariant (sym c.first.ensures ∙ c.in-None.is) c.next.result c.next.new.self c.next.ensures.steps).0

pub invariant_of-self-in-Some-next_below : goal.invariant_of-self-in-Some-next_below
invariant_of-self-in-Some-next_below g c =
    (below c.self.inside.plain c.self.inside.identified c.self.invariant c.in-Some.nlri (sym c.first.ensures ∙ c.in-Some.is) c.in-Some-next_below.plain c.next_below.new.self c.in-Some-next_below.ensures.some).0

pub invariant_of-self-in-None-next_below : goal.invariant_of-self-in-None-next_below
invariant_of-self-in-None-next_below g c =
    (behind c.self.inside.plain c.self.inside.identified c.self.invariant c.in-Some.nlri (sym c.first.ensures ∙ c.in-Some.is) c.next_below.new.self c.in-None-next_below.ensures.none
    c.next-in-None-next_below.result c.next-in-None-next_below.new.self c.next-in-None-next_below.ensures.steps).0

pub returns-in-None-clause-steps : goal.returns-in-None-clause-steps
returns-in-None-clause-steps g c =
    rw (← c.self.view_is)
    (alone c.self.inside.plain c.self.inside.identified c.self.invariant (sym c.first.ensures ∙ c.in-None.is) c.next.result c.next.new.self c.next.ensures.steps).1

pub returns-in-None-clause-goes : goal.returns-in-None-clause-goes
returns-in-None-clause-goes g c =
    rw (← c.self.view_is)
    (progress _ _ _ _ (alone c.self.inside.plain c.self.inside.identified c.self.invariant (sym c.first.ensures ∙ c.in-None.is) c.next.result c.next.new.self c.next.ensures.steps).1)

pub returns-in-Some-next_below-clause-steps : goal.returns-in-Some-next_below-clause-steps
returns-in-Some-next_below-clause-steps g c =
    rw (← c.self.view_is)
    (below c.self.inside.plain c.self.inside.identified c.self.invariant c.in-Some.nlri (sym c.first.ensures ∙ c.in-Some.is) c.in-Some-next_below.plain c.next_below.new.self c.in-Some-next_below.ensures.some).1

pub returns-in-Some-next_below-clause-goes : goal.returns-in-Some-next_below-clause-goes
returns-in-Some-next_below-clause-goes g c =
    rw (← c.self.view_is)
    (progress (λ e. (e.0, e.1.now)) _ _ _ (below c.self.inside.plain c.self.inside.identified c.self.invariant c.in-Some.nlri (sym c.first.ensures ∙ c.in-Some.is) c.in-Some-next_below.plain c.next_below.new.self c.in-Some-next_below.ensures.some).1)

pub returns-in-None-next_below-clause-steps : goal.returns-in-None-next_below-clause-steps
returns-in-None-next_below-clause-steps g c =
    rw (← c.self.view_is)
    (behind c.self.inside.plain c.self.inside.identified c.self.invariant c.in-Some.nlri (sym c.first.ensures ∙ c.in-Some.is) c.next_below.new.self c.in-None-next_below.ensures.none
    c.next-in-None-next_below.result c.next-in-None-next_below.new.self c.next-in-None-next_below.ensures.steps).1

pub returns-in-None-next_below-clause-goes : goal.returns-in-None-next_below-clause-goes
returns-in-None-next_below-clause-goes g c =
    rw (← c.self.view_is)
    (progress _ _ _ _ (behind c.self.inside.plain c.self.inside.identified c.self.invariant c.in-Some.nlri (sym c.first.ensures ∙ c.in-Some.is) c.next_below.new.self c.in-None-next_below.ensures.none
    c.next-in-None-next_below.result c.next-in-None-next_below.new.self c.next-in-None-next_below.ensures.steps).1)
