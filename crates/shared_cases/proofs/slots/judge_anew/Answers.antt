use Rattle.std.proofs.Common.{◌||◌, Bool, not, Some, ap, sym, subst, ◌∙◌}
use Rattle.std.specs.declared.option.Option.{Option}
use Rattle.std.specs.Option.{option_copied_mut}
use Rattle.path_model.specs.declared.role.Role.{Role}
use Rattle.path_model.specs.PrintedWitness.{IsPrinted}
use Rattle.shared_cases.specs.declared.case.StoredCase.{StoredCase}
use Rattle.shared_cases.specs.Cases.{same_verdict}
use Rattle.shared_cases.specs.Grounds.{lent, IsRightCase}
use Rattle.shared_cases.proofs.CaseLemmas.{written_here}
use Rattle.shared_cases.proofs.RejudgingLemmas.{differed_written}
use Rattle.shared_cases.proofs.slots.judge_anew.Goals as goal

pub returns-then-case-clause-judged : goal.returns-then-case-clause-judged
returns-then-case-clause-judged g c =
    let case : StoredCase = c.in-Some.case.now in
    subst (λ (o : Option StoredCase). IsRightCase (lent g.T.Table.rows c.args.on.now) o)
    (sym (written_here c.args.slab.now.slots c.args.number case (Some (record case { judged = c.judge-case.result })) (sym c.get_mut.ensures.value ∙ ap option_copied_mut c.in-Some.is)))
    (subst (λ (role : Role). IsPrinted (g.T.Table.rows c.args.on.now.table.now) role case.asn case.trail c.judge-case.result.verdict c.judge-case.result.witness) c.of.ensures c.judge-case.ensures.printed)

pub returns-clause-judged : goal.returns-clause-judged
returns-clause-judged g c =
    let case : StoredCase = c.in-Some.case.now in
    subst (λ (o : Option StoredCase). IsRightCase (lent g.T.Table.rows c.args.on.now) o)
    (sym (written_here c.args.slab.now.slots c.args.number case (Some (record case { judged = c.judge-case.result; differed = not c.is_same_verdict.result })) (sym c.get_mut.ensures.value ∙ ap option_copied_mut c.in-Some.is)))
    (subst (λ (role : Role). IsPrinted (g.T.Table.rows c.args.on.now.table.now) role case.asn case.trail c.judge-case.result.verdict c.judge-case.result.witness) c.of.ensures c.judge-case.ensures.printed)

pub returns-clause-differed : goal.returns-clause-differed
returns-clause-differed g c =
    let case : StoredCase = c.in-Some.case.now in
    let differs : Bool = not (same_verdict case.marked c.judge-case.result.verdict) in
    differed_written c.args.slab.now.slots c.args.number case (record case { judged = c.judge-case.result; differed = not c.is_same_verdict.result }) (sym c.get_mut.ensures.value ∙ ap option_copied_mut c.in-Some.is)
    (ap not (c.is_same_verdict.ensures ∙ ap (same_verdict case.marked) c.verdict-after.ensures) ∙ sym (ap (λ (b : Bool). b || differs) c.if-case.false))
