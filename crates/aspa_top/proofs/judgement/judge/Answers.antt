use Rattle.std.proofs.Common.{◌≡◌, ◌∙◌, ap, ◌++◌, ◌∷◌, [], List, ℕ, false, sym, subst}
use Rattle.path_model.specs.Trail.{path_of}
use Rattle.av_text.specs.VerdictText.{verdict_text}
use Rattle.aspa_top.specs.Tasks.{IsJudged}
use Rattle.aspa_top.proofs.JudgedLemmas.{judged_by_computed}
use Rattle.aspa_top.proofs.judgement.judge.Goals as goal

pub returns-clause-judged : goal.returns-clause-judged
returns-clause-judged g c =
    let is : c.push.new.self.items ≡ verdict_text c.verdict.result ++ 10 ∷ [] =
    c.in_ok-push.ensures.items ∙ ap (λ (t : List ℕ). t ++ 10 ∷ []) (c.in_ok-put_verdict.ensures.ok ∙ ap (λ (t : List ℕ). t ++ verdict_text c.verdict.result) c.new-line.ensures.items) in
    subst (λ (t : List ℕ). IsJudged c.args.table.now c.args.role c.args.neighbour c.args.path.now t) (sym is)
    (judged_by_computed c.args.table.now c.args.role c.args.neighbour c.args.path.now c.in_ok-trail.trail c.verdict.result
    (c.in_ok-trail.ensures ∙ ap (path_of false) c.as_slice.ensures) (rw c.verdict.ensures c.judge-judged.ensures.printed.right))
