use Rattle.std.proofs.Common.{ℕ, List, ap, sym, ◌∙◌, subst}
use Rattle.std.specs.Ordering.{nat_cmp}
use Rattle.std.specs.List.Sorted.{IsStrictlySortedBy}
use Rattle.std.specs.Map.{keys_of}
use Rattle.attestations.specs.declared.term.Term.{Term}
use Rattle.attestations.specs.Held.{gathered}
use Rattle.attestations.proofs.GatheredLemmas.{Adding, adding_start, adding_next, adding_end}
use Rattle.attestations.proofs.gathered_terms.GatheredTerms.into_terms.Goals as goal

pub loop-customer-init : goal.loop-customer-init
loop-customer-init c =
    let gives = c.into_iter-customer-iterator.ensures.into_iter_gives in
    adding_start c.self.inside.firsts c.into_iter-customer-iterator.result (subst (λ (es : List (ℕ × List Term)). IsStrictlySortedBy nat_cmp (keys_of es)) (sym gives.0) gives.5)

pub loop-customer-preserved : goal.loop-customer-preserved
loop-customer-preserved c =
    adding_next c.self.inside.firsts c.into_iter-customer-iterator.result c.next.new.self c.loop-customer.terms c.unite_list.new.self c.in-Some.customer c.in-Some.list
    (subst (λ (es : List (ℕ × List Term)). Adding c.self.inside.firsts c.into_iter-customer-iterator.result es c.loop-customer.terms) c.in-Some.ensures.steps c.loop-customer.invariant)
    c.in_ok-unite_list.ensures.ok

pub returns : goal.returns
returns c =
    adding_end c.self.inside.firsts c.into_iter-customer-iterator.result c.args.self c.loop-customer.terms
    (ap (λ (es : List (ℕ × List Term)). gathered c.self.inside.firsts es) c.into_iter-customer-iterator.ensures.into_iter_gives.0 ∙ c.self.view_is)
    (subst (λ (es : List (ℕ × List Term)). Adding c.self.inside.firsts c.into_iter-customer-iterator.result es c.loop-customer.terms) c.in-None.ensures.steps.0 c.loop-customer.invariant)
