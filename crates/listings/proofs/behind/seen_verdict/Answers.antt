use Rattle.std.proofs.Common.{ℕ, sym, subst}
use Rattle.attestations.specs.ComputedTable.{table_of}
use Rattle.path_model.specs.RightVerdict.{IsRight}
use Rattle.path_model.specs.Trail.{Path}
use Rattle.path_model.specs.declared.verdict.Verdict.{Verdict}
use Rattle.listings.specs.Sent.{first_of, sent_path}
use Rattle.listings.proofs.behind.seen_verdict.Goals as goal

pub returns-clause-right : goal.returns-clause-right
returns-clause-right g c =
    let table = table_of c.args.table.now in
    subst (λ (v : Verdict). IsRight table c.args.role (first_of c.args.ases.now) (sent_path c.args.ases.now c.args.trail.now) v) (sym c.verdict.ensures)
    (subst (λ (p : Path). IsRight table c.args.role (first_of c.args.ases.now) p c.judge-judged.result.verdict) c.in_ok-joined.ensures
    (subst (λ (n : ℕ). IsRight table c.args.role n c.in_ok-joined.joined c.judge-judged.result.verdict) c.first_of.ensures c.judge-judged.ensures.printed.right))
