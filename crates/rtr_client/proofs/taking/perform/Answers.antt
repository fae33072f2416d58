use Rattle.std.proofs.Common.{◌∙◌}
use Rattle.connection_calls.proofs.ConnectionLemmas.{Spares-refl}
use Rattle.connection_calls.proofs.FaultsLemmas.{BreaksByFault-refl}
use Rattle.rtr_client.proofs.TakingLemmas.{moves_nothing, moves_apply, moves_sent, moves_lost, moves_end}
use Rattle.rtr_client.proofs.taking.perform.Goals as goal

pub returns-in-Nothing-clause-moved : goal.returns-in-Nothing-clause-moved
returns-in-Nothing-clause-moved g c = λ state stands. moves_nothing _ c.args.feed c.args.act state stands c.in-Nothing.is

pub returns-in_ok-change-in-Apply-clause-moved : goal.returns-in_ok-change-in-Apply-clause-moved
returns-in_ok-change-in-Apply-clause-moved g c = λ state stands. moves_apply _ c.args.feed c.args.act state stands c.in-Apply.delta c.in-Apply.is

pub returns-then-send_or_close-clause-moved : goal.returns-then-send_or_close-clause-moved
returns-then-send_or_close-clause-moved g c = λ state stands.
    moves_sent _ c.args.feed c.args.act state stands (g.K.Links.wire c.send_or_close.new.links) c.in-Send.query _ c.send_or_close.result c.in-Send.is
    (c.as_slice.ensures.value ∙ c.in_ok-bytes-in-Send.ensures) c.send_or_close.ensures.sends c.if-send_or_close.true

pub returns-else-send_or_close-clause-moved : goal.returns-else-send_or_close-clause-moved
returns-else-send_or_close-clause-moved g c = λ state stands.
    moves_lost _ c.args.feed c.args.act state stands (g.K.Links.wire c.send_or_close.new.links) c.in-Send.query _ c.send_or_close.result c.in-Send.is
    (c.as_slice.ensures.value ∙ c.in_ok-bytes-in-Send.ensures) c.send_or_close.ensures.sends c.if-send_or_close.false

pub returns-in_ok-report-in-End-clause-moved : goal.returns-in_ok-report-in-End-clause-moved
returns-in_ok-report-in-End-clause-moved g c = λ state stands.
    moves_end _ c.args.feed c.args.act state stands (g.K.Links.wire c.finish.new.links) c.in-End.ending c.report.result _ c.cause_of_end.result c.finish.result
    c.in-End.is c.report.ensures (c.as_slice-in-End.ensures.value ∙ c.in_ok-report-in-End.ensures) c.cause_of_end.ensures c.finish.ensures.finishes

pub returns-in-Nothing-clause-only : goal.returns-in-Nothing-clause-only
returns-in-Nothing-clause-only g c = Spares-refl _ _ _

pub returns-in_ok-change-in-Apply-clause-only : goal.returns-in_ok-change-in-Apply-clause-only
returns-in_ok-change-in-Apply-clause-only g c = Spares-refl _ _ _

-- ---- for want of memory

pub returns-in_err-change-in-Apply-clause-only : goal.returns-in_err-change-in-Apply-clause-only
returns-in_err-change-in-Apply-clause-only g c = Spares-refl _ _ _

pub returns-in_err-bytes-in-Send-clause-only : goal.returns-in_err-bytes-in-Send-clause-only
returns-in_err-bytes-in-Send-clause-only g c = Spares-refl _ _ _

pub returns-in_err-change-in-End-clause-only : goal.returns-in_err-change-in-End-clause-only
returns-in_err-change-in-End-clause-only g c = Spares-refl _ _ _

pub returns-in_err-report-in-End-clause-only : goal.returns-in_err-report-in-End-clause-only
returns-in_err-report-in-End-clause-only g c = Spares-refl _ _ _

pub returns-in-Nothing-clause-broke : goal.returns-in-Nothing-clause-broke
returns-in-Nothing-clause-broke g c = BreaksByFault-refl _ _

pub returns-in_ok-change-in-Apply-clause-broke : goal.returns-in_ok-change-in-Apply-clause-broke
returns-in_ok-change-in-Apply-clause-broke g c = BreaksByFault-refl _ _

pub returns-in_err-change-in-Apply-clause-broke : goal.returns-in_err-change-in-Apply-clause-broke
returns-in_err-change-in-Apply-clause-broke g c = BreaksByFault-refl _ _

pub returns-in_err-bytes-in-Send-clause-broke : goal.returns-in_err-bytes-in-Send-clause-broke
returns-in_err-bytes-in-Send-clause-broke g c = BreaksByFault-refl _ _

pub returns-in_err-change-in-End-clause-broke : goal.returns-in_err-change-in-End-clause-broke
returns-in_err-change-in-End-clause-broke g c = BreaksByFault-refl _ _

pub returns-in_err-report-in-End-clause-broke : goal.returns-in_err-report-in-End-clause-broke
returns-in_err-report-in-End-clause-broke g c = BreaksByFault-refl _ _
