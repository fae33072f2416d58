use Rattle.std.proofs.Common.{◌≡◌, ◌↔◌, ◌⊎◌, ◌+◌, true, ℕ, List, ◌∷◌, drop, ap, sym, subst, ◌∙◌}
use Rattle.std.proofs.lemmas.List.{drop_more}
use Rattle.attestations.specs.declared.moves.RowMove.{RowMove}
use Rattle.shared_cases.specs.Numbers.{has}
use Rattle.shared_cases.specs.Touching.{IsTouchedBy}
use Rattle.shared_cases.proofs.MoveLemmas.{touched_next}
use Rattle.shared_cases.proofs.touched.touched_by_moves.Goals as goal

pub loop-row_move-preserved : goal.loop-row_move-preserved
loop-row_move-preserved c n =
    let moves : List RowMove = c.as_slice-row_move-items.result.now in
    let i : ℕ = c.loop-row_move.row_move-index in
    let m : RowMove = c.row_move-item.result in
    let step : drop i moves ≡ m ∷ drop (i + 1) moves = drop_more moves i m c.loop-row_move-test.true ∙ ap (λ (x : RowMove). x ∷ drop (i + 1) moves) (sym c.row_move-item.is) in
    touched_next c.args.index.now c.args.moves.now (drop (i + 1) moves) m n (has c.loop-row_move.found n) (has c.touch.new.touched n) (c.in_ok-touch.ensures n)
    (subst (λ (ms : List RowMove). ((has c.loop-row_move.found n ≡ true) ⊎ IsTouchedBy c.args.index.now ms n) ↔ IsTouchedBy c.args.index.now c.args.moves.now n) step (c.loop-row_move.invariant n))
