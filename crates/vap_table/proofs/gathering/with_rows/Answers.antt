use Rattle.std.proofs.Common.{List, ℕ, sym, subst}
use Rattle.std.specs.List.Sorted.{IsNonDecreasing}
use Rattle.vap_table.specs.declared.stepping.Step.TheVariants.{SourceMore}
use Rattle.vap_table.specs.Stepping.{times, AreStepsTaken}
use Rattle.vap_table.proofs.TurningLemmas.{none_come, rows_come}
use Rattle.vap_table.proofs.gathering.with_rows.Goals as goal

pub step_rows-requires-clause-rising : goal.step_rows-requires-clause-rising
step_rows-requires-clause-rising c = subst IsNonDecreasing (sym c.as_slice-numbers.ensures.value) c.requires.rising

pub returns-then-gathered-eq0-clause-tally : goal.returns-then-gathered-eq0-clause-tally
returns-then-gathered-eq0-clause-tally c = λ rows g. none_come rows c.args.gathered.now.rows c.args.gathered.now.numbers.items c.args.tally c.if-gathered-eq0.true g

pub returns-clause-tally : goal.returns-clause-tally
returns-clause-tally c = λ rows g. rows_come rows c.args.gathered.now.rows c.args.gathered.now.numbers.items c.args.tally c.in_ok-next.next g
    (subst (λ (list : List ℕ). AreStepsTaken SourceMore c.args.gathered.now.rows (times list) c.args.tally c.in_ok-next.next) c.as_slice-numbers.ensures.value c.in_ok-next.ensures.stepped)
