use Rattle.std.proofs.Common.{◌≡◌, subst}
use Rattle.std.specs.FinMap as fin
use Rattle.std.proofs.lemmas.Result.{on_ok_weaker}
use Rattle.rib_store.specs.State.{State}
use Rattle.analyser.specs.declared.event.Event.TheVariants.{Routes}
use Rattle.analyser.specs.Departures.{AreDepartures}
use Rattle.analyser.specs.Events.{Happens}
use Rattle.analyser.proofs.DepartureLemmas.{cleared_by, none_judged}
use Rattle.analyser.proofs.analysis.Analyser.clear.Goals as goal

pub returns-clause-cleared : goal.returns-clause-cleared
returns-clause-cleared g c =
    let are = subst (λ (s : State). AreDepartures s.routes c.in_ok-changes.changes) c.store.ensures c.in_ok-changes.ensures in
    on_ok_weaker c.apply.result (cleared_by c.args.self.now c.apply.new.self c.in_ok-changes.changes are) c.apply.ensures.state

pub returns-clause-ticks : goal.returns-clause-ticks
returns-clause-ticks g c =
    let are = subst (λ (s : State). AreDepartures s.routes c.in_ok-changes.changes) c.store.ensures c.in_ok-changes.ensures in
    none_judged c.args.self.now c.in_ok-changes.changes c.args.steps.now c.apply.new.steps are c.apply.ensures.ticks
