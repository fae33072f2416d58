use Rattle.std.proofs.Common.{ℕ, ◌+◌, List, drop, subst}
use Rattle.std.proofs.lemmas.List.{drop_all}
use Rattle.attestations.specs.declared.term.Term.{Term}
use Rattle.vap_table.proofs.LastsLemmas.{Adding, adding_next, adding_end, drop_item}
use Rattle.vap_table.proofs.lasts.Lasts.add.Goals as goal

pub loop-term-preserved : goal.loop-term-preserved
loop-term-preserved c =
    let terms : List Term = c.args.terms.now in
    let i : ℕ = c.loop-term.term-index in
    adding_next c.loop-term.self c.add_term.new.self c.args.self.now c.args.customer c.term-item.result (drop (i + 1) terms) terms c.in_ok-add_term.ensures
    (subst (λ (rest : List Term). Adding c.loop-term.self c.args.customer rest c.args.self.now terms) (drop_item terms i c.term-item.result c.loop-term-test.true c.term-item.is) c.loop-term.invariant)

pub returns : goal.returns
returns c = adding_end c.loop-term.self c.args.self.now c.args.customer (drop c.loop-term.term-index c.args.terms.now) c.args.terms.now (drop_all c.loop-term.term-index c.args.terms.now c.loop-term-test.false) c.loop-term.invariant
