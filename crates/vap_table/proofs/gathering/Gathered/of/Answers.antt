use Rattle.std.proofs.Common.{◌≡◌, ℕ, ◌+◌, List, ◌∷◌, ◌&&◌, not, Bool, drop, subst}
use Rattle.std.specs.declared.option.Option.{Option}
use Rattle.std.proofs.lemmas.List.{drop_all}
use Rattle.std.proofs.lemmas.List.Sorted.{IsNonDecreasingBy-from_sort}
use Rattle.attestations.specs.declared.term.Term.{Term}
use Rattle.attestations.specs.Terms.{HaveSetsOfProviders}
use Rattle.vap_table.specs.Turning.{is_counted, row_if, rows_left, AreGatheredToo}
use Rattle.vap_table.proofs.LastsLemmas.{drop_item}
use Rattle.vap_table.proofs.TurningLemmas.{Gathering, gathering_next, gathering_end, left_next}
use Rattle.vap_table.proofs.gathering.Gathered.of.Goals as goal

pub add_if-requires : goal.add_if-requires
add_if-requires c = (subst (λ (left : List Term). HaveSetsOfProviders left) (drop_item c.args.terms.now c.loop-term.term-index c.term-item.result c.loop-term-test.true c.term-item.is) c.loop-term.invariant.1).0

pub loop-term-preserved : goal.loop-term-preserved
loop-term-preserved c =
    let from : Option ℕ = c.args.from in
    let to : Option ℕ = c.args.to in
    let terms : List Term = c.args.terms.now in
    let i : ℕ = c.loop-term.term-index in
    let t : Term = c.term-item.result in
    let rest : List Term = drop (i + 1) terms in
    let split : drop i terms ≡ t ∷ rest = drop_item terms i t c.loop-term-test.true c.term-item.is in
    let all : List (List ℕ) = rows_left from to terms in
    let was = c.loop-term.gathered in
    let is = c.add_if.new.self in (
      gathering_next all (row_if (is_counted from t.until && not (is_counted to t.until)) t.providers) (rows_left from to rest) was.rows was.numbers.items is.rows is.numbers.items
          (subst (λ (b : Bool). AreGatheredToo (row_if b t.providers) was.rows was.numbers.items is.rows is.numbers.items) c.is_left.ensures c.in_ok-add_if.ensures)
          (subst (λ (rows : List (List ℕ)). Gathering all rows was.rows was.numbers.items) (left_next from to t rest)
          (subst (λ (left : List Term). Gathering all (rows_left from to left) was.rows was.numbers.items) split c.loop-term.invariant.0)),
      (subst (λ (left : List Term). HaveSetsOfProviders left) split c.loop-term.invariant.1).1,
    )

pub returns-clause-rising : goal.returns-clause-rising
returns-clause-rising c = IsNonDecreasingBy-from_sort (λ (n : ℕ). n) c.sort_unstable.new.self.items c.sort_unstable.ensures.sorted

pub returns-clause-rows : goal.returns-clause-rows
returns-clause-rows c =
    let all : List (List ℕ) = rows_left c.args.from c.args.to c.args.terms.now in
    let was = c.loop-term.gathered in
    gathering_end all was.rows was.numbers.items c.sort_unstable.new.self.items c.sort_unstable.ensures.permutation
    (subst (λ (left : List Term). Gathering all (rows_left c.args.from c.args.to left) was.rows was.numbers.items) (drop_all c.loop-term.term-index c.args.terms.now c.loop-term-test.false) c.loop-term.invariant.0)
