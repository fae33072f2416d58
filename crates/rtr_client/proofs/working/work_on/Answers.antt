use Rattle.rtr_client.specs.Steps.{made_in}
use Rattle.rtr_client.proofs.WorkingLemmas.{asks_halted, asks_worked}
use Rattle.rtr_client.proofs.working.work_on.Goals as goal

pub returns-in-Ask-clause-halts : goal.returns-in-Ask-clause-halts
returns-in-Ask-clause-halts g c =
    rw c.in-Ask.is
    (asks_halted (g.K.Links.wire c.args.links.now) (g.K.Links.wire c.ask_feed.new.links) c.args.name.now c.args.feed (made_in c.args.progress.now) c.args.steps.now c.ask_feed.result
    (g.K.Links.standings c.ask_feed.new.links) (g.met.K.Links.agrees c.ask_feed.new.links) c.ask_feed.ensures.halts c.ask_feed.ensures.err_usable)

pub returns-in-Take-clause-halts : goal.returns-in-Take-clause-halts
returns-in-Take-clause-halts g c = rw c.in-Take.is c.take_some.ensures.halts

pub returns-in-Sync-clause-halts : goal.returns-in-Sync-clause-halts
returns-in-Sync-clause-halts g c = rw c.in-Sync.is c.take_some-in-Sync.ensures.halts

pub returns-in-Ask-clause-works : goal.returns-in-Ask-clause-works
returns-in-Ask-clause-works g c =
    rw c.in-Ask.is
    (asks_worked (g.K.Links.wire c.args.links.now) (g.K.Links.wire c.ask_feed.new.links) c.args.name.now c.args.feed (made_in c.args.progress.now) c.args.steps.now c.ask_feed.result c.ask_feed.ensures.asks)

pub returns-in-Take-clause-works : goal.returns-in-Take-clause-works
returns-in-Take-clause-works g c = rw c.in-Take.is c.take_some.ensures.works

pub returns-in-Sync-clause-works : goal.returns-in-Sync-clause-works
returns-in-Sync-clause-works g c = rw c.in-Sync.is c.take_some-in-Sync.ensures.works
