use Rattle.std.proofs.Common.{arith}
use Rattle.rib_store.specs.Numbered.{numbered_left}
use Rattle.listings.proofs.SentCountLemmas.{ticks_failed, ticks_whole}
use Rattle.listings.proofs.SentLemmas.{sent_put}
use Rattle.listings.proofs.sent.put_sent.Goals as goal

pub returns-clause-lists : goal.returns-clause-lists
returns-clause-lists g c =
    sent_put c.args.store.now c.args.role c.args.ases.now c.as_slice-ases.result.now c.in_ok-verdicts.verdicts.items c.deref.result.now c.table.result.now c.in_ok-own.own
    (numbered_left c.numbered.result) _ _ _ c.as_slice-ases.ensures c.deref.ensures.value c.table.ensures c.in_ok-verdicts.ensures.seen c.in_ok-own.ensures.right
    c.numbered.ensures.routes c.in_ok-verdicts.ensures.held c.put_all.ensures.listed

pub returns-clause-ticks : goal.returns-clause-ticks
returns-clause-ticks g c =
    ticks_whole c.args.store.now c.args.role c.as_slice-ases.result.now c.in_ok-verdicts.verdicts.items (numbered_left c.numbered.result) c.args.steps.now c.own_verdict.new.steps
    c.sent_verdicts.new.steps _ c.cases_are_those_of_the_routes.ensures c.in_ok-verdicts.ensures.seen c.numbered.ensures.routes c.in_ok-verdicts.ensures.held
    c.in_ok-own.ensures.ticked c.in_ok-verdicts.ensures.ticked

pub returns-in_err-own-clause-ticks : goal.returns-in_err-own-clause-ticks
returns-in_err-own-clause-ticks g c =
    ticks_failed c.args.store.now.state c.args.steps.now c.own_verdict.new.steps c.from_residual.result c.from_residual.ensures.0
    (λ pairs number. omega (arith, c.in_err-own.ensures.none))

pub returns-in_err-verdicts-clause-ticks : goal.returns-in_err-verdicts-clause-ticks
returns-in_err-verdicts-clause-ticks g c =
    ticks_failed c.args.store.now.state c.args.steps.now c.sent_verdicts.new.steps c.from_residual-in_err-verdicts.result c.from_residual-in_err-verdicts.ensures.0
    (λ pairs number. omega (arith, c.in_ok-own.ensures.ticked, c.in_err-verdicts.ensures.most pairs number))
