use Rattle.std.proofs.Common.{inr, subst, Bool, Some}
use Rattle.path_model.specs.declared.role.Role.{Role}
use Rattle.path_model.specs.PrintedWitness.{IsPrinted}
use Rattle.shared_cases.specs.Cases.{Rewrites}
use Rattle.shared_cases.specs.Taking.{new_case}
use Rattle.shared_cases.proofs.cases.SharedCases.take_new.Goals as goal

pub returns-clause-taken : goal.returns-clause-taken
returns-clause-taken g c = inr (record {
  absent = c.requires.absent;
  vacant = c.in_ok-number.ensures.vacant;
  judgement = c.judge-judged.result;
  right = subst (λ (role : Role). IsPrinted (g.T.Table.rows c.args.on.now.table.now) role c.args.name.asn c.args.name.trail c.judge-judged.result.verdict c.judge-judged.result.witness) c.of.ensures c.judge-judged.ensures.printed;
  added = subst (λ (own : Bool). Rewrites c.args.self.now c.add.new.self c.in_ok-number.number (Some (new_case c.args.name.asn c.args.name.trail c.judge-judged.result own))) c.has_own.ensures
      c.in_ok-number.ensures.added;
})
