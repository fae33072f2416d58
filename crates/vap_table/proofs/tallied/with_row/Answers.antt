use Rattle.std.proofs.Common.{nat_cmp, true, List, ℕ, ap, sym, subst}
use Rattle.std.specs.Option.{option_copied}
use Rattle.std.specs.declared.option.Option.{Option}
use Rattle.std.specs.List.Sorted.{IsStrictlySortedBy}
use Rattle.std.proofs.lemmas.Map.Keys.{sorted_from_strictly_increasing}
use Rattle.vap_table.specs.declared.stepping.Step.TheVariants.{SourceMore, AssertionMore}
use Rattle.vap_table.specs.declared.tallied.Side.{Side}
use Rattle.vap_table.specs.Counting.{IsGrownBy, IsTallyBySide}
use Rattle.vap_table.specs.Sources.{IsSetIfGiven}
use Rattle.vap_table.specs.Stepping.{IsTallyStepped}
use Rattle.vap_table.proofs.CountingLemmas.{source_added, assertion_added}
use Rattle.vap_table.proofs.tallied.with_row.Goals as goal

pub step_tally-requires-clause-rising : goal.step_tally-requires-clause-rising
step_tally-requires-clause-rising c = subst (λ (row : List ℕ). IsStrictlySortedBy nat_cmp row) (sym c.as_slice.ensures)
    (sorted_from_strictly_increasing c.in-Some.row.now (subst (λ (row : Option (List ℕ)). IsSetIfGiven row) (ap option_copied c.in-Some.is) c.requires.set))

pub step_tally-requires-in-Assertions-clause-rising : goal.step_tally-requires-in-Assertions-clause-rising
step_tally-requires-in-Assertions-clause-rising c = subst (λ (row : List ℕ). IsStrictlySortedBy nat_cmp row) (sym c.as_slice-in-Assertions.ensures)
    (sorted_from_strictly_increasing c.in-Some.row.now (subst (λ (row : Option (List ℕ)). IsSetIfGiven row) (ap option_copied c.in-Some.is) c.requires.set))

pub returns-in_ok-next-in-Sources-clause-tally : goal.returns-in_ok-next-in-Sources-clause-tally
returns-in_ok-next-in-Sources-clause-tally c = λ rows grown other g is.
    subst (λ (side : Side). IsTallyBySide side grown other c.in_ok-next-in-Sources.next) (sym c.in-Sources.is)
    (source_added c.in-Some.row.now rows grown other c.args.tally c.in_ok-next-in-Sources.next
    (subst (λ (row : List ℕ). IsTallyStepped SourceMore true row c.args.tally c.in_ok-next-in-Sources.next) c.as_slice.ensures c.in_ok-next-in-Sources.ensures.stepped)
    (subst (λ (row : Option (List ℕ)). IsGrownBy row rows grown) (ap option_copied c.in-Some.is) g)
    (subst (λ (side : Side). IsTallyBySide side rows other c.args.tally) c.in-Sources.is is))

pub returns-in_ok-next-in-Assertions-clause-tally : goal.returns-in_ok-next-in-Assertions-clause-tally
returns-in_ok-next-in-Assertions-clause-tally c = λ rows grown other g is.
    subst (λ (side : Side). IsTallyBySide side grown other c.in_ok-next-in-Assertions.next) (sym c.in-Assertions.is)
    (assertion_added true c.in-Some.row.now rows grown other c.args.tally c.in_ok-next-in-Assertions.next
    (subst (λ (row : List ℕ). IsTallyStepped AssertionMore true row c.args.tally c.in_ok-next-in-Assertions.next) c.as_slice-in-Assertions.ensures c.in_ok-next-in-Assertions.ensures.stepped)
    (subst (λ (row : Option (List ℕ)). IsGrownBy row rows grown) (ap option_copied c.in-Some.is) g)
    (subst (λ (side : Side). IsTallyBySide side rows other c.args.tally) c.in-Assertions.is is))
