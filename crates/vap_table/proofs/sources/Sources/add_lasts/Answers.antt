use Rattle.std.proofs.Common.{ℕ, ◌+◌, List, drop, ap, sym, subst}
use Rattle.std.proofs.lemmas.List.{drop_all}
use Rattle.attestations.specs.declared.term.Term.{Term}
use Rattle.attestations.specs.Terms.{TermMap}
use Rattle.vap_table.specs.Lasts.{all_terms, AddsLasts}
use Rattle.vap_table.specs.Sources.{list_of}
use Rattle.vap_table.proofs.LastsLemmas.{Adding, adding_start, adding_end, source_added, drop_item}
use Rattle.vap_table.proofs.sources.Sources.add_lasts.Goals as goal

pub loop-terms-init : goal.loop-terms-init
loop-terms-init c =
    subst (λ (named : List (List ℕ × TermMap)). Adding c.args.lasts.now c.args.customer (all_terms named c.args.customer) c.args.lasts.now (all_terms c.args.self.now c.args.customer)) (sym c.as_slice-terms-items.ensures)
    (adding_start c.args.lasts.now c.args.customer (all_terms c.args.self.now c.args.customer))

pub loop-terms-preserved : goal.loop-terms-preserved
loop-terms-preserved c =
    let x : ℕ = c.args.customer in
    let named : List (List ℕ × TermMap) = c.as_slice-terms-items.result.now in
    let i : ℕ = c.loop-terms.terms-index in
    let s : List ℕ × TermMap = c.loop-terms-item.result in
    let rest : List (List ℕ × TermMap) = drop (i + 1) named in
    let all : List Term = all_terms c.args.self.now x in
    source_added c.loop-terms.lasts c.add_of.new.lasts c.args.lasts.now x (list_of s.1 x) (all_terms rest x) all
    (subst (λ (ts : List Term). AddsLasts c.loop-terms.lasts x ts c.add_of.new.lasts) c.of_customer.ensures.whole c.in_ok-add_of.ensures)
    (subst (λ (left : List (List ℕ × TermMap)). Adding c.loop-terms.lasts x (all_terms left x) c.args.lasts.now all) (drop_item named i s c.loop-terms-test.true c.loop-terms-item.is) c.loop-terms.invariant)

pub returns : goal.returns
returns c =
    let x : ℕ = c.args.customer in
    let named : List (List ℕ × TermMap) = c.as_slice-terms-items.result.now in
    let i : ℕ = c.loop-terms.terms-index in
    adding_end c.loop-terms.lasts c.args.lasts.now x (all_terms (drop i named) x) (all_terms c.args.self.now x)
    (ap (λ (left : List (List ℕ × TermMap)). all_terms left x) (drop_all i named c.loop-terms-test.false)) c.loop-terms.invariant
