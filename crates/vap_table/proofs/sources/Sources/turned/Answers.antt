use Rattle.std.proofs.Common.{ℕ, ◌+◌, List, drop, sym, subst}
use Rattle.std.specs.FinMap as map
use Rattle.std.proofs.lemmas.List.{drop_all}
use Rattle.attestations.specs.declared.term.Term.{Term}
use Rattle.attestations.specs.ComputedTable.{attested}
use Rattle.attestations.specs.Terms.{TermMap, alive_among, alive_of}
use Rattle.vap_table.specs.Turning.{IsTurned}
use Rattle.vap_table.proofs.LastsLemmas.{drop_item}
use Rattle.vap_table.proofs.TurningLemmas.{Turning, turning_start, turning_next, turning_end}
use Rattle.vap_table.proofs.sources.Sources.turned.Goals as goal

pub loop-terms-init : goal.loop-terms-init
loop-terms-init c =
    let x : ℕ = c.args.customer in
    let gone : List (List ℕ) = attested c.args.from c.args.self.now x in
    let come : List (List ℕ) = attested c.args.to c.args.self.now x in
    subst (λ (named : List (List ℕ × TermMap)). Turning gone come (attested c.args.from named x) (attested c.args.to named x) c.args.tally c.args.tally) (sym c.as_slice-terms-items.ensures)
    (turning_start gone come c.args.tally c.requires)

pub loop-terms-preserved : goal.loop-terms-preserved
loop-terms-preserved c =
    let x : ℕ = c.args.customer in
    let from : ℕ = c.args.from in
    let to : ℕ = c.args.to in
    let gone : List (List ℕ) = attested from c.args.self.now x in
    let come : List (List ℕ) = attested to c.args.self.now x in
    let named : List (List ℕ × TermMap) = c.as_slice-terms-items.result.now in
    let i : ℕ = c.loop-terms.terms-index in
    let s : List ℕ × TermMap = c.loop-terms-item.result in
    let rest : List (List ℕ × TermMap) = drop (i + 1) named in
    turning_next gone come (alive_of from (map.get s.1 x)) (alive_of to (map.get s.1 x)) (attested from rest x) (attested to rest x) c.args.tally c.loop-terms.tally c.in_ok-tally.tally c.in_ok-tally.ensures.ordered
    (subst (λ (ts : List Term). IsTurned (alive_among from ts) (alive_among to ts) c.loop-terms.tally c.in_ok-tally.tally) c.of_customer.ensures.whole c.in_ok-tally.ensures.tally)
    (subst (λ (left : List (List ℕ × TermMap)). Turning gone come (attested from left x) (attested to left x) c.args.tally c.loop-terms.tally) (drop_item named i s c.loop-terms-test.true c.loop-terms-item.is) c.loop-terms.invariant)

pub returns-clause-tally : goal.returns-clause-tally
returns-clause-tally c =
    let x : ℕ = c.args.customer in
    let gone : List (List ℕ) = attested c.args.from c.args.self.now x in
    let come : List (List ℕ) = attested c.args.to c.args.self.now x in
    turning_end gone come c.args.tally c.loop-terms.tally
    (subst (λ (left : List (List ℕ × TermMap)). Turning gone come (attested c.args.from left x) (attested c.args.to left x) c.args.tally c.loop-terms.tally)
    (drop_all c.loop-terms.terms-index c.as_slice-terms-items.result.now c.loop-terms-test.false) c.loop-terms.invariant)
