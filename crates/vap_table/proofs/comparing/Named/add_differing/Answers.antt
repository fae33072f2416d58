use Rattle.std.proofs.Common.{ℕ, List, nat_cmp, ap, subst, ◌∙◌}
use Rattle.std.specs.FinMap as map
use Rattle.attestations.specs.declared.term.Term.{Term}
use Rattle.attestations.specs.declared.term_entries.TermEntries.{TermEntries}
use Rattle.attestations.specs.Attested.{listed}
use Rattle.attestations.specs.Entries.{terms_left}
use Rattle.vap_table.specs.Comparing.{lists_of, set_if, IsLeft, IsLeftOrLasting}
use Rattle.vap_table.proofs.ComparingLemmas.{Saying, saying_start, saying_next, added_at}
use Rattle.vap_table.proofs.comparing.Named.add_differing.Goals as goal

pub loop-customer-init : goal.loop-customer-init
loop-customer-init c =
    let first = c.args.self.now in
    let whole = lists_of c.args.terms.now in
    let entries : List (ℕ × List Term) = terms_left c.into_iter-customer-iterator.result in
    let same = λ (q : ℕ). ap (λ (r : TermEntries). map.find nat_cmp q (terms_left r)) c.into_iter-customer-iterator.ensures.into_iter_gives ∙ c.entries-customer-items.ensures.whole q in (
      saying_start (λ q list. IsLeft list (map.get c.args.others.now q)) first.all whole entries same,
      saying_start (λ q list. IsLeftOrLasting list (map.get c.args.others.now q)) first.ended whole entries same,
    )

pub loop-customer-preserved : goal.loop-customer-preserved
loop-customer-preserved c =
    let first = c.args.self.now in
    let names = c.loop-customer.self in
    let now = c.add_if_differs.new.self in
    let whole = lists_of c.args.terms.now in
    let others = c.args.others.now in
    let x : ℕ = c.in-Some.customer in
    let list : List Term = listed c.in-Some.attested in
    let left : List (ℕ × List Term) = terms_left c.next.new.self in (
      saying_next (λ q l. IsLeft l (map.get others q)) first.all whole left names.all now.all x list
          (added_at IsLeft others names.all now.all x list (set_if c.of_customer.result) c.of_customer.ensures.given c.in_ok-add_if_differs.ensures.all)
          (subst (λ (entries : List (ℕ × List Term)). Saying (λ q l. IsLeft l (map.get others q)) first.all whole entries names.all) c.in-Some.ensures.steps c.loop-customer.invariant.0),
      saying_next (λ q l. IsLeftOrLasting l (map.get others q)) first.ended whole left names.ended now.ended x list
          (added_at IsLeftOrLasting others names.ended now.ended x list (set_if c.of_customer.result) c.of_customer.ensures.given c.in_ok-add_if_differs.ensures.ended)
          (subst (λ (entries : List (ℕ × List Term)). Saying (λ q l. IsLeftOrLasting l (map.get others q)) first.ended whole entries names.ended) c.in-Some.ensures.steps c.loop-customer.invariant.1),
    )

pub returns-clause-all : goal.returns-clause-all
returns-clause-all c q out =
    subst (λ (entries : List (ℕ × List Term)). Saying (λ q l. IsLeft l (map.get c.args.others.now q)) c.args.self.now.all (lists_of c.args.terms.now) entries c.loop-customer.self.all) c.in-None.ensures.steps.0
    c.loop-customer.invariant.0 q out tt

pub returns-clause-ended : goal.returns-clause-ended
returns-clause-ended c q out =
    subst (λ (entries : List (ℕ × List Term)). Saying (λ q l. IsLeftOrLasting l (map.get c.args.others.now q)) c.args.self.now.ended (lists_of c.args.terms.now) entries c.loop-customer.self.ended) c.in-None.ensures.steps.0
    c.loop-customer.invariant.1 q out tt
