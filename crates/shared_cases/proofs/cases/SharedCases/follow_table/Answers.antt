use Rattle.std.proofs.Common.{ℕ, IfOk, subst}
use Rattle.path_model.specs.Authority.{Table}
use Rattle.attestations.specs.Moves.{AreMoves}
use Rattle.shared_cases.specs.Cases.{Slots, at}
use Rattle.shared_cases.specs.Grounds.{lent, with_table, IsJudged}
use Rattle.shared_cases.proofs.cases.SharedCases.follow_table.Goals as goal

pub returns-clause-judged : goal.returns-clause-judged
returns-clause-judged g c =
    subst (λ (cases : Slots). IfOk c.follow_listed.result (λ r. (before : Table) → AreMoves before (g.T.Table.rows c.args.on.now.table.now) c.args.moves.now
    → (n : ℕ) → IsJudged (with_table before (lent g.T.Table.rows c.args.on.now)) (at cases n) → IsJudged (lent g.T.Table.rows c.args.on.now) (at r.0 n)))
    c.list_for.ensures c.follow_listed.ensures.judged
