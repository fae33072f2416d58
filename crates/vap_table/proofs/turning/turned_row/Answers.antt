use Rattle.std.proofs.Common.{Bool, List, [], ◌∷◌, ℕ, sym, subst}
use Rattle.vap_table.specs.Turning.{row_if, IsTurned}
use Rattle.vap_table.proofs.TurningLemmas.{row_come, row_gone}
use Rattle.vap_table.proofs.turning.turned_row.Goals as goal

pub returns-in_ok-next-in-true-false-clause-tally : goal.returns-in_ok-next-in-true-false-clause-tally
returns-in_ok-next-in-true-false-clause-tally c = let row : List ℕ = c.args.row.now in
    subst (λ (is : Bool). IsTurned (row_if c.args.was row) (row_if is row) c.args.tally c.in_ok-next-in-true-false.next) (sym c.in-true-false.is-1)
    (subst (λ (was : Bool). IsTurned (row_if was row) [] c.args.tally c.in_ok-next-in-true-false.next) (sym c.in-true-false.is-0)
    (row_gone row c.args.tally c.in_ok-next-in-true-false.next c.in_ok-next-in-true-false.ensures.tally))

pub returns-in_ok-next-in-false-true-clause-tally : goal.returns-in_ok-next-in-false-true-clause-tally
returns-in_ok-next-in-false-true-clause-tally c = let row : List ℕ = c.args.row.now in
    subst (λ (is : Bool). IsTurned (row_if c.args.was row) (row_if is row) c.args.tally c.in_ok-next-in-false-true.next) (sym c.in-false-true.is-1)
    (subst (λ (was : Bool). IsTurned (row_if was row) (row ∷ []) c.args.tally c.in_ok-next-in-false-true.next) (sym c.in-false-true.is-0)
    (row_come row c.args.tally c.in_ok-next-in-false-true.next c.in_ok-next-in-false-true.ensures.tally))
