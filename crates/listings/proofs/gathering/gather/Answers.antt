use Rattle.std.proofs.Common.{◌≡◌, ℕ, List, true, sym, subst}
use Rattle.std.specs.List.Sorted.{IsStrictlySortedBy}
use Rattle.std.specs.Ordering.{nat_cmp}
use Rattle.hop_index.specs.Numbers.{has_number}
use Rattle.listings.specs.EachNeighbour.{went_at}
use Rattle.listings.proofs.GatherLemmas.{are_neighbours, counting_more, counting_over, counting_start}
use Rattle.listings.proofs.gathering.gather.Goals as goal

pub loop-number-init : goal.loop-number-init
loop-number-init c = λ y. counting_start c.args.store.now.cases c.args.asn y c.as_slice-number-items.result.now c.new-found.result.entries
    (subst (IsStrictlySortedBy nat_cmp) (sym c.as_slice-number-items.ensures.value) c.in_ok-cases.ensures.rising) c.new-found.ensures.empty

pub loop-number-preserved : goal.loop-number-preserved
loop-number-preserved c = λ y. counting_more c.args.store.now.cases c.args.asn y c.as_slice-number-items.result.now c.loop-number.number-index
    (went_at c.loop-number.found.entries y) (went_at c.count_case.new.found.entries y) c.loop-number-test.true (c.in_ok-count_case.ensures y) (c.loop-number.invariant y)

pub returns : goal.returns
returns c =
    let numbers = c.as_slice-number-items.result.now in
    are_neighbours c.args.store.now c.args.asn c.cases_are_those_of_the_routes.ensures c.cases_count_their_routes.ensures c.index.result.now c.index.ensures
    numbers (subst (IsStrictlySortedBy nat_cmp) (sym c.as_slice-number-items.ensures.value) c.in_ok-cases.ensures.rising)
    (λ y n hop. subst (λ (ns : List ℕ). has_number ns n ≡ true) (sym c.as_slice-number-items.ensures.value) (c.in_ok-cases.ensures.whole y n hop))
    c.loop-number.found.entries c.len-length.ensures.ordered
    (λ y. counting_over c.args.store.now.cases c.args.asn y numbers c.loop-number.number-index (went_at c.loop-number.found.entries y) c.loop-number-test.false (c.loop-number.invariant y))
