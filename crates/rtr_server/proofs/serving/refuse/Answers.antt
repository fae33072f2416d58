use Rattle.std.proofs.Common.{ℕ, List, ◌++◌, subst}
use Rattle.connection_calls.specs.Moves.{Finishes}
use Rattle.connection_calls.proofs.ConnectionLemmas.{KeepsSent-refl}
use Rattle.rtr_server.proofs.ServingLemmas.{on_err, over_refused}
use Rattle.connection_calls.proofs.FaultsLemmas.{BreaksByFault-refl}
use Rattle.rtr_server.proofs.serving.refuse.Goals as goal

pub returns-clause-steps : goal.returns-clause-steps
returns-clause-steps g c = λ cache used sent now more.
    over_refused cache (g.K.Links.wire c.finish-whole.new.links) c.args.link used sent c.args.held.now c.in_ok-report.report.items c.report.result c.args.cause c.args.count.taken c.args.count.answers c.finish-whole.result c.end_of.result c.requires.refused c.report.ensures c.in_ok-report.ensures
    (subst (λ (l : List ℕ). Finishes (g.K.Links.wire c.finish-whole.new.links) c.args.link (used ++ c.args.held.now) sent l c.finish-whole.result) c.as_slice.ensures.value (c.finish-whole.ensures.finishes (used ++ c.args.held.now) sent now)) c.end_of.ensures more

pub returns-in_err-report-clause-halts : goal.returns-in_err-report-clause-halts
returns-in_err-report-clause-halts g c = on_err c.from_residual.result (KeepsSent-refl _ _)

pub returns-in_err-report-clause-broke : goal.returns-in_err-report-clause-broke
returns-in_err-report-clause-broke g c = BreaksByFault-refl _ _
