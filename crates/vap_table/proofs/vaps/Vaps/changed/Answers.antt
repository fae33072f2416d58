use Rattle.std.proofs.Common.{◌≡◌, ℕ, false, List, sym, subst, ◌∙◌}
use Rattle.path_model.specs.Authority.{Table, has}
use Rattle.attestations.specs.CurrentTable.{Parts}
use Rattle.attestations.specs.ComputedTable.{table_of}
use Rattle.attestations.specs.declared.moves.RowMove.{RowMove}
use Rattle.vap_table.specs.Current.{rows_among}
use Rattle.attestations.specs.Moves.{AreMoves}
use Rattle.attestations.proofs.MovesLemmas.{are_moves, same_moves}
use Rattle.vap_table.proofs.VapsLemmas.{same_row, still_kept}
use Rattle.vap_table.proofs.vaps.Vaps.changed.Goals as goal

pub refreshed-requires-clause-still : goal.refreshed-requires-clause-still
refreshed-requires-clause-still c = λ x out.
    still_kept c.self.inside.current c.self.inside.parts c.in_ok-parts.parts x (c.self.invariant.rows x) (c.in_ok-names.ensures.all c.in_ok-parts.parts c.in_ok-parts.ensures.parts x out)

pub returns-clause-moves : goal.returns-clause-moves
returns-clause-moves c =
    let held : Parts = c.self.inside.parts in
    let changed : Parts = c.in_ok-parts.parts in
    let names : List ℕ = c.in_ok-names.names.all in
    let before : Table = rows_among c.in_ok-names.before.entries in
    let still = λ (x : ℕ) (out : has names x ≡ false). same_row held changed x (c.in_ok-names.ensures.all changed c.in_ok-parts.ensures.parts x out) in
    let same = same_moves before (table_of held) (table_of changed) names (λ x here. c.in_ok-names.ensures.before x here ∙ (c.self.invariant.rows x).row) in
    subst (λ (old : Parts). AreMoves (table_of old) (table_of changed) c.in_ok-current.moves) c.self.view_is
    (subst (λ (moves : List RowMove). AreMoves (table_of held) (table_of changed) moves) (sym (c.in_ok-current.ensures.moves ∙ same))
    (are_moves (table_of held) (table_of changed) names c.in_ok-current.ensures.rising still))
