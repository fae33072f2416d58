use Rattle.std.proofs.Common.{◌≡◌, Bool, List, ◌∷◌, [], ℕ, ap, sym, subst, ◌∙◌}
use Rattle.attestations.specs.declared.term.Term.{Term}
use Rattle.vap_table.specs.Turning.{row_if, rows_at, IsTurned}
use Rattle.vap_table.proofs.TurningLemmas.{rows_of_one}
use Rattle.vap_table.proofs.turning.turned_term.Goals as goal

pub returns-clause-tally : goal.returns-clause-tally
returns-clause-tally c =
    let t : Term = c.args.term.now in
    let gone : row_if c.is_counted-was.result t.providers ≡ rows_at c.args.from (t ∷ []) = ap (λ (b : Bool). row_if b t.providers) c.is_counted-was.ensures ∙ sym (rows_of_one c.args.from t) in
    let come : row_if c.is_counted-is.result t.providers ≡ rows_at c.args.to (t ∷ []) = ap (λ (b : Bool). row_if b t.providers) c.is_counted-is.ensures ∙ sym (rows_of_one c.args.to t) in
    subst (λ (rows : List (List ℕ)). IsTurned (rows_at c.args.from (t ∷ [])) rows c.args.tally c.in_ok-next.next) come
    (subst (λ (rows : List (List ℕ)). IsTurned rows (row_if c.is_counted-is.result t.providers) c.args.tally c.in_ok-next.next) gone c.in_ok-next.ensures.tally)
