use Rattle.std.proofs.Common.{◌≡◌, List, ℕ, ◌∷◌, [], Bool, ap, sym, subst, ◌∙◌}
use Rattle.attestations.specs.declared.term.Term.{Term}
use Rattle.attestations.specs.Attested.{listed}
use Rattle.attestations.specs.Terms.{lasting}
use Rattle.vap_table.specs.Turning.{row_if, rows_at, IsTurned}
use Rattle.vap_table.proofs.TurningLemmas.{rows_of_lasting}
use Rattle.vap_table.proofs.turning.turned_listed.Goals as goal

pub returns-in_ok-next-in-Row-clause-tally : goal.returns-in_ok-next-in-Row-clause-tally
returns-in_ok-next-in-Row-clause-tally c =
    let row : List ℕ = c.in-Row.row.now in
    let list : listed c.args.attested ≡ lasting row ∷ [] = ap listed c.in-Row.is in
    let gone : row_if c.is_some.result row ≡ rows_at c.args.from (listed c.args.attested) =
    ap (λ (b : Bool). row_if b row) c.is_some.ensures ∙ sym (ap (rows_at c.args.from) list ∙ rows_of_lasting c.args.from row) in
    let come : row_if c.is_some-in-Row.result row ≡ rows_at c.args.to (listed c.args.attested) =
    ap (λ (b : Bool). row_if b row) c.is_some-in-Row.ensures ∙ sym (ap (rows_at c.args.to) list ∙ rows_of_lasting c.args.to row) in
    subst (λ (rows : List (List ℕ)). IsTurned (rows_at c.args.from (listed c.args.attested)) rows c.args.tally c.in_ok-next-in-Row.next) come
    (subst (λ (rows : List (List ℕ)). IsTurned rows (row_if c.is_some-in-Row.result row) c.args.tally c.in_ok-next-in-Row.next) gone c.in_ok-next-in-Row.ensures.tally)

pub returns-in_ok-next-in-Terms-clause-tally : goal.returns-in_ok-next-in-Terms-clause-tally
returns-in_ok-next-in-Terms-clause-tally c =
    subst (λ (list : List Term). IsTurned (rows_at c.args.from list) (rows_at c.args.to list) c.args.tally c.in_ok-next-in-Terms.next) (sym (ap listed c.in-Terms.is)) c.in_ok-next-in-Terms.ensures.tally
