use Rattle.std.proofs.Common.{subst, IfOk}
use Rattle.path_model.specs.Trail.{Path}
use Rattle.shared_cases.specs.declared.case_name.CaseName.{CaseName}
use Rattle.shared_cases.specs.Grounds.{lent}
use Rattle.shared_cases.specs.Taking.{Takes}
use Rattle.shared_cases.proofs.cases.SharedCases.take.Goals as goal

pub returns-clause-taken : goal.returns-clause-taken
returns-clause-taken g c =
    subst (λ (trail : Path). IfOk c.take_new.result (λ n. Takes (lent g.T.Table.rows c.args.on.now) c.args.asn trail c.args.self.now c.take_new.new.self n)) c.in_ok-copy.ensures
    (subst (λ (name : CaseName). IfOk c.take_new.result (λ n. Takes (lent g.T.Table.rows c.args.on.now) name.asn name.trail c.args.self.now c.take_new.new.self n)) c.new-name.ensures
    c.take_new.ensures.taken)
