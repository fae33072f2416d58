use Rattle.std.proofs.Common.{◌≡◌, ◌↔◌, ◌⊎◌, ℕ, true, drop}
use Rattle.shared_cases.specs.Numbers.{has}
use Rattle.shared_cases.specs.Touching.{IsTouchedBy}
use Rattle.shared_cases.proofs.touched.touched_by_moves.Given as goal

abbrev pub invariant-loop-row_move : goal.invariant-loop-row_move
invariant-loop-row_move l = (n : ℕ) → ((has l.found n ≡ true) ⊎ IsTouchedBy l.index (drop l.row_move-index l.row_move-items) n) ↔ IsTouchedBy l.index l.moves n
